-- What a worker reads of its stream in one round.
use Rattle.std.proofs.Common.{◌≡◌, ◌⊎◌, inl, inr, ℕ, ◌+◌, min, true, false, List, [], ◌∷◌, ◌++◌, length, Option, Some, None}
use Rattle.std.proofs.Common.{refl, sym, ap, subst, ◌∙◌, arith, append-nil}
use Rattle.std.specs.List.{AllZip}
use Rattle.feed_io.specs.Packets.{BeginsWith, PacketRecord, marker, records_in}
use Rattle.feed_io.proofs.Packets.{records_then}
use Rattle.forward_worker.specs.Rounds.{EndsBy, HasRoom, IsRound, PassesOver, Takes}
use Rattle.forward_worker.specs.declared.desk.Desk.{Desk}
use Rattle.forward_worker.specs.declared.desk.Stop.TheVariants as stop
use Rattle.forward_worker.specs.declared.desk.WorkerEnd.{WorkerEnd}
use Rattle.forward_worker.specs.declared.desk.WorkerEnd.TheVariants as end
use Rattle.forward_worker.specs.declared.rows.CheckRow.{CheckRow}
use Rattle.live_rounds.specs.Stations.{IsFine}
use Rattle.live_text.specs.Packets.{IsGood, Packet, packets_from}
use Rattle.live_text.proofs.Reading.{IsPacketRow, packets_then, rows_last, rows_paired, stream_then}

-- a worker that saw the end has nothing left
abbrev pub IsEmptied : Desk → List ℕ → Type 0
IsEmptied desk text = desk.ended ≡ true → text ≡ []

-- what a worker read of a stream in a round that is not the last: the packets of its rows come first among those of the
-- stream, and then those of what is left, from the next round on
pub record RoundRead (last round : ℕ) (old new : Desk) (text : List ℕ) (has : Option (List ℕ)) (rows : List CheckRow)
    (outcome : WorkerEnd) : Type 0 where
  pub rest : List ℕ
  pub left : has ≡ Some rest
  pub packets : List Packet
  pub paired : AllZip (IsPacketRow round) packets rows
  pub parts : packets_from last old.worker old.place round (records_in text)
      ≡ packets ++ packets_from last new.worker new.place (min (round + 1) last) (records_in rest)
  pub good : IsGood rest → IsGood text
  pub worker : new.worker ≡ old.worker
  pub place : new.place ≡ old.place + length rows
  pub emptied : (new.ended ≡ true → (old.ended ≡ true) ⊎ (outcome ≡ end.End)) → IsEmptied new rest

begins_none : (records : List PacketRecord) (rest : List ℕ) → BeginsWith [] records rest → rest ≡ []
begins_none [] rest begins = sym begins
begins_none (r ∷ records) rest begins = let (more, found, later) = begins in absurd cc

-- where a round ends at the end of the stream, nothing is left
at_end : (old desk : Desk) (text mid : List ℕ) (records : List PacketRecord) → IsEmptied old text
    → desk.ended ≡ old.ended → BeginsWith text records mid
    → (desk.ended ≡ true) ⊎ HasRoom desk × (mid ≡ []) → mid ≡ []
at_end old desk text mid records emptied same begins (inl seen) =
    begins_none records mid
    (subst (λ (t : List ℕ). BeginsWith t records mid) (emptied (sym same ∙ seen)) begins)
at_end old desk text mid records emptied same begins (inr now) = now.1

module _ (last round : ℕ) (old desk new : Desk) (text : List ℕ) (rows : List CheckRow) where
  by_marker : (mid rest : List ℕ) → PassesOver stop.Marker old desk (Some text) (Some mid) [] rows → HasRoom desk
      → Takes 1 desk new → BeginsWith mid (marker ∷ []) rest
      → RoundRead last round old new text (Some rest) rows end.Marker
  by_marker mid rest over room takes begins =
      let all : records_in text ≡ over.records ++ (marker ∷ records_in rest) =
      records_then text mid over.records over.read
      ∙ ap (λ (rs : List PacketRecord). over.records ++ rs) (records_then mid rest (marker ∷ []) begins) in
      let worker : new.worker ≡ old.worker = takes.worker ∙ over.worker in
      let place : new.place ≡ old.place + length over.further = takes.place ∙ over.place in
      record {
        rest = rest;
        left = refl;
        packets = packets_from last old.worker old.place round over.records;
        paired = subst (λ (rs : List CheckRow). AllZip (IsPacketRow round)
            (packets_from last old.worker old.place round over.records) rs) (sym over.joined)
            (rows_paired last old.worker old.place round over.records over.further over.over over.rows_are);
        parts = ap (λ (rs : List PacketRecord). packets_from last old.worker old.place round rs) all
            ∙ packets_then last old.worker old.place round over.records (marker ∷ records_in rest) over.further over.over
            over.rows_are
            ∙ ap (λ (n : ℕ). packets_from last old.worker old.place round over.records
            ++ packets_from last old.worker n (min (round + 1) last) (records_in rest)) (sym place)
            ∙ ap (λ (w : ℕ). packets_from last old.worker old.place round over.records
            ++ packets_from last w new.place (min (round + 1) last) (records_in rest)) (sym worker);
        good = λ is. stream_then text mid over.records over.read (stream_then mid rest (marker ∷ []) begins is);
        worker = worker;
        place = place ∙ ap (λ (rs : List CheckRow). old.place + length rs) (sym over.joined);
        emptied = λ was is. elim (was is) [
          | inl seen ↦ let unseen : old.ended ≡ false = sym over.ended ∙ room.0 in absurd cc
          | inr other ↦ absurd cc
        ];
      }

  by_end : (mid : List ℕ) → PassesOver stop.Marker old desk (Some text) (Some mid) [] rows → Takes 0 desk new
      → mid ≡ [] → RoundRead last round old new text (Some mid) rows end.End
  by_end mid over takes none =
      let all : records_in text ≡ over.records = records_then text mid over.records over.read
      ∙ ap (λ (t : List ℕ). over.records ++ records_in t) none ∙ append-nil over.records in
      let worker : new.worker ≡ old.worker = takes.worker ∙ over.worker in
      let place : new.place ≡ old.place + length over.further = takes.place ∙ over.place ∙ omega arith in
      record {
        rest = mid;
        left = refl;
        packets = packets_from last old.worker old.place round over.records;
        paired = subst (λ (rs : List CheckRow). AllZip (IsPacketRow round)
            (packets_from last old.worker old.place round over.records) rs) (sym over.joined)
            (rows_paired last old.worker old.place round over.records over.further over.over over.rows_are);
        parts = ap (λ (rs : List PacketRecord). packets_from last old.worker old.place round rs) all
            ∙ sym (append-nil (packets_from last old.worker old.place round over.records))
            ∙ ap (λ (t : List ℕ). packets_from last old.worker old.place round over.records
            ++ packets_from last new.worker new.place (min (round + 1) last) (records_in t)) (sym none);
        good = λ is. stream_then text mid over.records over.read is;
        worker = worker;
        place = place ∙ ap (λ (rs : List CheckRow). old.place + length rs) (sym over.joined);
        emptied = λ was is. none;
      }

  read_by : (behind has : Option (List ℕ)) (outcome : WorkerEnd) → IsEmptied old text
      → PassesOver stop.Marker old desk (Some text) behind [] rows → EndsBy stop.Marker desk new behind has outcome
      → IsFine outcome → RoundRead last round old new text has rows outcome
  read_by None has outcome emptied over ends fine = absurd over.read
  read_by (Some mid) None end.Marker emptied over ends fine = absurd ends.3
  read_by (Some mid) (Some rest) end.Marker emptied over ends fine = by_marker mid rest over ends.0 ends.1 ends.3
  read_by (Some mid) None end.End emptied over ends fine = absurd ends.1
  read_by (Some mid) (Some rest) end.End emptied over ends fine =
      subst (λ (t : List ℕ). RoundRead last round old new text (Some t) rows end.End) (sym ends.1)
      (by_end mid over ends.0 (at_end old desk text mid over.records emptied over.ended over.read ends.2))
  read_by (Some mid) has end.Failed emptied over ends fine = absurd fine
  read_by (Some mid) has end.Bad emptied over ends fine = absurd fine
  read_by (Some mid) has end.Limit emptied over ends fine = absurd fine
  read_by (Some mid) has end.OutOfMemory emptied over ends fine = absurd fine

-- what is read in a round that ends at a marker, or at the end before it
pub round_read : (last round : ℕ) (old new : Desk) (text : List ℕ) (has : Option (List ℕ)) (rows : List CheckRow)
    (outcome : WorkerEnd) → IsEmptied old text → IsRound stop.Marker old new (Some text) has [] rows outcome
    → IsFine outcome → RoundRead last round old new text has rows outcome
round_read last round old new text has rows outcome emptied is fine =
    read_by last round old is.desk new text rows is.behind has outcome emptied is.over is.ends fine

-- what a worker read of a stream in the last round: all of it
pub record LastRead (last : ℕ) (old new : Desk) (text : List ℕ) (rows : List CheckRow) : Type 0 where
  pub paired : AllZip (IsPacketRow last) (packets_from last old.worker old.place last (records_in text)) rows
  pub good : IsGood text
  pub worker : new.worker ≡ old.worker
  pub place : new.place ≡ old.place + length rows

module _ (last : ℕ) (old desk new : Desk) (text : List ℕ) (rows : List CheckRow) where
  last_end : (mid : List ℕ) → PassesOver stop.End old desk (Some text) (Some mid) [] rows → Takes 0 desk new
      → mid ≡ [] → LastRead last old new text rows
  last_end mid over takes none =
      let all : records_in text ≡ over.records = records_then text mid over.records over.read
      ∙ ap (λ (t : List ℕ). over.records ++ records_in t) none ∙ append-nil over.records in
      let place : new.place ≡ old.place + length over.further = takes.place ∙ over.place ∙ omega arith in
      record {
        paired = subst (λ (rs : List PacketRecord). AllZip (IsPacketRow last)
            (packets_from last old.worker old.place last rs) rows) (sym all)
            (subst (λ (rs : List CheckRow). AllZip (IsPacketRow last)
            (packets_from last old.worker old.place last over.records) rs) (sym over.joined)
            (rows_last last old.worker old.place over.records over.further over.rows_are));
        good = stream_then text mid over.records over.read
            (subst (λ (t : List ℕ). IsGood t) (sym none) refl);
        worker = takes.worker ∙ over.worker;
        place = place ∙ ap (λ (rs : List CheckRow). old.place + length rs) (sym over.joined);
      }

  last_by : (behind has : Option (List ℕ)) (outcome : WorkerEnd) → IsEmptied old text
      → PassesOver stop.End old desk (Some text) behind [] rows → EndsBy stop.End desk new behind has outcome
      → IsFine outcome → LastRead last old new text rows
  last_by None has outcome emptied over ends fine = absurd over.read
  last_by (Some mid) has end.Marker emptied over ends fine = let clash = ends.2 in absurd cc
  last_by (Some mid) has end.End emptied over ends fine =
      last_end mid over ends.0 (at_end old desk text mid over.records emptied over.ended over.read ends.2)
  last_by (Some mid) has end.Failed emptied over ends fine = absurd fine
  last_by (Some mid) has end.Bad emptied over ends fine = absurd fine
  last_by (Some mid) has end.Limit emptied over ends fine = absurd fine
  last_by (Some mid) has end.OutOfMemory emptied over ends fine = absurd fine

-- what is read in a round that passes over markers
pub last_read : (last : ℕ) (old new : Desk) (text : List ℕ) (has : Option (List ℕ)) (rows : List CheckRow)
    (outcome : WorkerEnd) → IsEmptied old text → IsRound stop.End old new (Some text) has [] rows outcome
    → IsFine outcome → LastRead last old new text rows
last_read last old new text has rows outcome emptied is fine =
    last_by last old is.desk new text rows is.behind has outcome emptied is.over is.ends fine
