-- Records that are passed over, one after the other.
use Rattle.std.proofs.Common.{◌≡◌, ℕ, ◌+◌, List, [], ◌∷◌, ◌++◌, length}
use Rattle.std.proofs.Common.{Option, Some, None, refl, ap, sym, subst, ◌∙◌, append_assoc, length-append, append-nil, arith}
use Rattle.feed_io.specs.Packets.{PacketRecord, packet, marker, BeginsWith}
use Rattle.forward_worker.specs.Rows.{AreRowsOf}
use Rattle.forward_worker.specs.Rounds.{AreRead, GoesOver, PassesOver}
use Rattle.forward_worker.specs.declared.desk.Desk.{Desk}
use Rattle.forward_worker.specs.declared.desk.Stop.{Stop}
use Rattle.forward_worker.specs.declared.desk.Stop.TheVariants as stop
use Rattle.forward_worker.specs.declared.rows.CheckRow.{CheckRow}

pub begins-joined : (text mid rest : List ℕ) (xs ys : List PacketRecord) → BeginsWith text xs mid → BeginsWith mid ys rest
    → BeginsWith text (xs ++ ys) rest
begins-joined text mid rest [] ys b c = rw b c
begins-joined text mid rest (x ∷ xs) ys b c = (b.0, b.1, begins-joined b.0 mid rest xs ys b.2 c)

pub read-joined : (xs ys : List PacketRecord) (had mid has : Option (List ℕ)) → AreRead xs had mid → AreRead ys mid has
    → AreRead (xs ++ ys) had has
read-joined xs ys None mid has r s = tt
read-joined xs ys (Some text) None has r s = absurd r
read-joined xs ys (Some text) (Some rest) None r s = absurd s
read-joined xs ys (Some text) (Some rest) (Some last) r s = begins-joined text rest last xs ys r s

pub read-none : (had : Option (List ℕ)) → AreRead [] had had
read-none None = tt
read-none (Some text) = refl

pub over-joined : (stop_at : Stop) (xs ys : List PacketRecord) → GoesOver stop_at xs → GoesOver stop_at ys
    → GoesOver stop_at (xs ++ ys)
over-joined stop.End xs ys o p = tt
over-joined stop.Marker [] ys o p = p
over-joined stop.Marker (packet iface octets ∷ xs) ys o p = over-joined stop.Marker xs ys o p
over-joined stop.Marker (marker ∷ xs) ys o p = absurd o

pub over-none : (stop_at : Stop) → GoesOver stop_at []
over-none stop.End = tt
over-none stop.Marker = tt

pub over-packet : (stop_at : Stop) (iface : ℕ) (octets : List ℕ) → GoesOver stop_at (packet iface octets ∷ [])
over-packet stop.End iface octets = tt
over-packet stop.Marker iface octets = tt

pub rows-joined : (worker place next : ℕ) (xs ys : List PacketRecord) (rows later : List CheckRow)
    → next ≡ place + length rows → AreRowsOf worker place xs rows → AreRowsOf worker next ys later
    → AreRowsOf worker place (xs ++ ys) (rows ++ later)
rows-joined worker place next [] ys rows later at r s =
    let same : next ≡ place = omega (arith, at, ap length r) in
    subst (λ l. AreRowsOf worker place ys (l ++ later)) (sym r) (subst (λ p. AreRowsOf worker p ys later) same s)
rows-joined worker place next (marker ∷ xs) ys rows later at r s = rows-joined worker place next xs ys rows later at r s
rows-joined worker place next (packet iface octets ∷ xs) ys rows later at r s = (
  r.0,
  r.1 ++ later,
  ap (λ l. l ++ later) r.2,
  r.3,
  rows-joined worker (place + 1) next xs ys r.1 later (omega (arith, at, ap length r.2)) r.4 s,
)

pub rows-then : (row : CheckRow) (rows held all : List CheckRow) → all ≡ held ++ row ∷ [] → held ≡ rows → all ≡ rows ++ row ∷ []
rows-then row rows held all joined same = joined ∙ ap (λ l. l ++ row ∷ []) same

module _ (stop_at : Stop) where
  -- nothing was read
  pub over-start : (desk : Desk) (had : Option (List ℕ)) (rows : List CheckRow) → PassesOver stop_at desk desk had had rows rows
  over-start desk had rows = record {
    records = [];
    further = [];
    over = over-none stop_at;
    read = read-none had;
    rows_are = refl;
    joined = sym (append-nil rows);
    worker = refl;
    place = omega arith;
    taken = omega arith;
    limit = refl;
    ended = refl;
  }

  pub over-then : (old mid new : Desk) (had left has : Option (List ℕ)) (rows more all : List CheckRow)
      → PassesOver stop_at old mid had left rows more → PassesOver stop_at mid new left has more all
      → PassesOver stop_at old new had has rows all
  over-then old mid new had left has rows more all p q = record {
    records = p.records ++ q.records;
    further = p.further ++ q.further;
    over = over-joined stop_at p.records q.records p.over q.over;
    read = read-joined p.records q.records had left has p.read q.read;
    rows_are = rows-joined old.worker old.place mid.place p.records q.records p.further q.further p.place p.rows_are
        (subst (λ w. AreRowsOf w mid.place q.records q.further) p.worker q.rows_are);
    joined = q.joined ∙ ap (λ l. l ++ q.further) p.joined ∙ append_assoc rows p.further q.further;
    worker = q.worker ∙ p.worker;
    place = omega (arith, p.place, q.place, length-append p.further q.further);
    taken = omega (arith, p.taken, q.taken, length-append p.records q.records);
    limit = q.limit ∙ p.limit;
    ended = q.ended ∙ p.ended;
  }
