-- What a reader of a capture file gives and where it stops, by what was read of the source.
use Rattle.std.proofs.Common.{◌≡◌, ◌⊎◌, ℕ, ◌+◌, ◌-◌, ◌<◌, ◌≤◌, true, false, min, List, [], ◌∷◌, ◌++◌, length, take}
use Rattle.std.proofs.Common.{Option, Some, None, Ok, Err, IfSome, inl, inr, refl, ap, sym, subst, ◌∙◌, append_assoc}
use Rattle.std.proofs.Common.{append-nil, length-append, arith}
use Rattle.std.proofs.Math.Seq.{take-append-add}
use Rattle.std.specs.Io.KnownBytes.{Consumes, IsAtEnd, ReadConsumes}
use Rattle.feed_io.specs.TraceFeeds.{KeepsCount}
use Rattle.pcap_packets.specs.Reading.{part_left, packets_left, EndsWell, IsUnfinished, Reads, Moves, Moved, IsOff}
use Rattle.pcap_packets.specs.Reading.{NeedsMore, Stops}
use Rattle.feed_io.specs.declared.limited.TheConstants.{FILE_OCTETS}
use Rattle.pcap_packets.specs.declared.part.Part.{Part}
use Rattle.pcap_packets.proofs.Parts.{reads_then, nothing_more}

-- ---- one move after the other

reads_nothing : (iface : ℕ) (part : Part) (pending : List ℕ) → Reads iface part pending [] part pending
reads_nothing iface part pending = record {
  same = λ text. refl;
  on = λ text ends. ends;
  back = λ text ends. ends;
}

pub moved_nothing : (iface : ℕ) (left : Option (List ℕ)) (taken : ℕ) (part : Part) (pending : List ℕ)
    → Moved iface left taken part pending left taken part pending
moved_nothing iface None taken part pending = tt
moved_nothing iface (Some text) taken part pending = record {
  piece = [];
  parts = refl;
  counted = omega arith;
  within = omega arith;
  reads = reads_nothing iface part pending;
}

pub moved_then : (iface : ℕ) (a b c : Option (List ℕ)) (i j k : ℕ) (old mid new : Part) (xs ys zs : List ℕ)
    → Moved iface a i old xs b j mid ys → Moved iface b j mid ys c k new zs → Moved iface a i old xs c k new zs
moved_then iface None b c i j k old mid new xs ys zs first second = tt
moved_then iface (Some text) None c i j k old mid new xs ys zs first second = absurd first
moved_then iface (Some text) (Some rest) None i j k old mid new xs ys zs first second = absurd second
moved_then iface (Some text) (Some rest) (Some last) i j k old mid new xs ys zs first second = record {
  piece = first.piece ++ second.piece;
  parts = first.parts ∙ ap (λ t. first.piece ++ t) second.parts ∙ sym (append_assoc first.piece second.piece last);
  counted = omega (arith, first.counted, second.counted, length-append first.piece second.piece);
  within = omega (
    arith,
    first.counted,
    first.within,
    second.within,
    length-append first.piece second.piece,
  );
  reads = reads_then first.reads second.reads;
}

-- a part that ends is no further read
pub moved_on : (iface : ℕ) (a b : Option (List ℕ)) (i j : ℕ) (old mid new : Part) (xs ys zs : List ℕ)
    → Moved iface a i old xs b j mid ys → Reads iface mid ys [] new zs → Moved iface a i old xs b j new zs
moved_on iface None b i j old mid new xs ys zs first second = tt
moved_on iface (Some text) None i j old mid new xs ys zs first second = absurd first
moved_on iface (Some text) (Some rest) i j old mid new xs ys zs first second = record {
  piece = first.piece;
  parts = first.parts;
  counted = first.counted;
  within = first.within;
  reads = subst (λ (p : List ℕ). Reads iface old xs p new zs) (append-nil first.piece) (reads_then first.reads second);
}

-- a piece was read behind a part
pub moved_piece : (iface : ℕ) (text rest : Option (List ℕ)) (taken n : ℕ) (old new : Part) (unsent piece : List ℕ)
    → Consumes text rest piece → length piece ≡ n → taken + n ≤ FILE_OCTETS
    → Reads iface old unsent piece new unsent → Moved iface text taken old unsent rest (taken + n) new unsent
moved_piece iface None rest taken n old new unsent piece consumed long within reads = tt
moved_piece iface (Some text) None taken n old new unsent piece consumed long within reads = absurd consumed
moved_piece iface (Some text) (Some rest) taken n old new unsent piece consumed long within reads = record {
  piece = piece;
  parts = consumed;
  counted = omega (arith, long);
  within = omega (arith, long, within);
  reads = reads;
}

-- ---- what is given

none_of_two : (xs ys : List ℕ) → xs ++ ys ≡ [] → xs ≡ []
none_of_two [] ys none = refl
none_of_two (x ∷ xs) ys none = absurd (omega (arith, ap length none))

-- what is left of an unfinished part at the end of the source
ends_empty : (iface : ℕ) (part : Part) → IsUnfinished part → part_left iface part [] ≡ []
ends_empty iface part is = nothing_more iface part.stage part.front part.missing is.fits is.some

end_reached : (buffer unsent : List ℕ) (n : ℕ) → n ≡ min (length buffer) (length unsent) → n ≡ 0
    → 0 < length buffer → unsent ≡ []
end_reached buffer [] n count none some = refl
end_reached buffer (x ∷ unsent) n count none some = absurd (omega (arith, count, none, some))

zs_none : (ys zs buffer : List ℕ) (n : ℕ) → ys ≡ take n buffer ++ zs → ys ≡ [] → zs ≡ []
zs_none ys [] buffer n given none = refl
zs_none ys (z ∷ zs) buffer n given none =
    absurd (omega (arith, ap length given, ap length none, length-append (take n buffer) (z ∷ zs)))

at_end : (iface : ℕ) (left : Option (List ℕ)) (part : Part) (pending : List ℕ) → pending ≡ [] → IsUnfinished part
    → IsAtEnd left → IsAtEnd (packets_left iface part pending left)
at_end iface None part pending sent is ended = tt
at_end iface (Some rest) part pending sent is ended =
    ap (λ s. s ++ part_left iface part rest) sent ∙ ap (part_left iface part) ended ∙ ends_empty iface part is

pub gives_next : (E : Type 0) (iface : ℕ) (old new : Option (List ℕ)) (taken count n : ℕ) (a b : Part)
    (xs ys zs buffer : List ℕ) → Moved iface old taken a xs new count b ys → IsUnfinished b
    → ys ≡ take n buffer ++ zs → n ≡ min (length buffer) (length ys) → (ys ≡ [] → IsAtEnd new)
    → ReadConsumes {E = E} (packets_left iface a xs old) (packets_left iface b zs new) (Ok n) buffer
gives_next E iface None new taken count n a b xs ys zs buffer moved is given many ended = (
  tt,
  λ none some.
      at_end iface new b zs (zs_none ys zs buffer n given (end_reached buffer ys n many none some)) is
      (ended (end_reached buffer ys n many none some)),
)
gives_next E iface (Some text) None taken count n a b xs ys zs buffer moved is given many ended = absurd moved
gives_next E iface (Some text) (Some rest) taken count n a b xs ys zs buffer m is given many ended = (
  ap (λ t. xs ++ part_left iface a t) m.parts ∙ m.reads.same rest ∙ ap (λ t. t ++ part_left iface b rest) given
      ∙ append_assoc (take n buffer) zs (part_left iface b rest),
  λ none some.
      at_end iface (Some rest) b zs (zs_none ys zs buffer n given (end_reached buffer ys n many none some)) is
      (ended (end_reached buffer ys n many none some)),
)

pub gives_none : (E : Type 0) (e : E) (iface : ℕ) (old new : Option (List ℕ)) (taken count : ℕ) (a b : Part)
    (xs ys buffer : List ℕ) → Moved iface old taken a xs new count b ys
    → ReadConsumes {E = E} (packets_left iface a xs old) (packets_left iface b ys new) (Err e) buffer
gives_none E e iface None new taken count a b xs ys buffer moved = tt
gives_none E e iface (Some text) None taken count a b xs ys buffer moved = absurd moved
gives_none E e iface (Some text) (Some rest) taken count a b xs ys buffer m =
    sym (ap (λ t. xs ++ part_left iface a t) m.parts ∙ m.reads.same rest)

-- all octets are counted
pub keeps_count : (iface : ℕ) (old new : Option (List ℕ)) (taken count : ℕ) (a b : Part) (xs ys : List ℕ)
    → Moved iface old taken a xs new count b ys → KeepsCount old taken new count
keeps_count iface None new taken count a b xs ys moved = tt
keeps_count iface (Some text) None taken count a b xs ys moved = absurd moved
keeps_count iface (Some text) (Some rest) taken count a b xs ys m =
    omega (arith, m.counted, ap length m.parts, length-append m.piece rest)

-- ---- where it stops

-- of what may still be read the piece was read
seen : (iface : ℕ) (a b : Part) (xs ys text rest : List ℕ) (taken count : ℕ)
    → Moves iface text taken a xs rest count b ys
    → xs ++ part_left iface a (take (FILE_OCTETS - taken) text)
    ≡ ys ++ part_left iface b (take (FILE_OCTETS - count) rest)
seen iface a b xs ys text rest taken count m =
    ap (λ t. xs ++ part_left iface a (take (FILE_OCTETS - taken) t)) m.parts
    ∙ ap (λ k. xs ++ part_left iface a (take k (m.piece ++ rest))) (omega (arith, m.counted, m.within))
    ∙ ap (λ t. xs ++ part_left iface a t) (take-append-add m.piece rest (FILE_OCTETS - count))
    ∙ m.reads.same (take (FILE_OCTETS - count) rest)

goes_past : (iface : ℕ) (a b : Part) (xs ys text rest : List ℕ) (taken count : ℕ)
    → Moves iface text taken a xs rest count b ys → (ys ≡ [] → rest ≡ []) → (ys ≡ [] → count < FILE_OCTETS)
    → (ys ≡ [] → EndsWell b []) → xs ≡ [] → IsOff iface a text ⊎ NeedsMore taken iface a text → ⊥
goes_past iface a b xs ys text rest taken count m ended room well sent (inl off) =
    let none : ys ++ part_left iface b rest ≡ [] =
    sym (m.reads.same rest) ∙ ap (λ t. xs ++ part_left iface a t) (sym m.parts) ∙ ap (λ s. s ++ part_left iface a text) sent
    ∙ off.none in
    let empty = none_of_two ys (part_left iface b rest) none in
    off.wrong (subst (λ (t : List ℕ). EndsWell a t) (sym m.parts)
    (m.reads.back rest (subst (λ (t : List ℕ). EndsWell b t) (sym (ended empty)) (well empty))))
goes_past iface a b xs ys text rest taken count m ended room well sent (inr more) =
    let next = part_left iface b (take (FILE_OCTETS - count) rest) in
    let none : ys ++ next ≡ [] =
    sym (seen iface a b xs ys text rest taken count m)
    ∙ ap (λ s. s ++ part_left iface a (take (FILE_OCTETS - taken) text)) sent ∙ more.none in
    let empty = none_of_two ys next none in
    omega (
      arith,
      more.beyond,
      m.counted,
      room empty,
      ap length m.parts,
      length-append m.piece rest,
      ap length (ended empty),
    )

-- what gives something, or ends as it should, does not stop
pub goes_on : (iface : ℕ) (old new : Option (List ℕ)) (taken count : ℕ) (a b : Part) (xs ys : List ℕ)
    → Moved iface old taken a xs new count b ys → (ys ≡ [] → IsAtEnd new) → (ys ≡ [] → count < FILE_OCTETS)
    → (ys ≡ [] → EndsWell b []) → IfSome old (λ text. Stops taken iface a xs text → false ≡ true)
goes_on iface None new taken count a b xs ys moved ended room well = tt
goes_on iface (Some text) None taken count a b xs ys moved ended room well = absurd moved
goes_on iface (Some text) (Some rest) taken count a b xs ys m ended room well =
    λ stops. absurd (goes_past iface a b xs ys text rest taken count m ended room well stops.sent stops.cause)

off_before : (iface : ℕ) (a b : Part) (xs ys text rest : List ℕ) (taken count : ℕ)
    → Moves iface text taken a xs rest count b ys → ys ≡ [] → IsOff iface b rest → Stops taken iface a xs text
off_before iface a b xs ys text rest taken count m sent off =
    let none : xs ++ part_left iface a text ≡ [] =
    ap (λ t. xs ++ part_left iface a t) m.parts ∙ m.reads.same rest ∙ ap (λ s. s ++ part_left iface b rest) sent
    ∙ off.none in
    let empty = none_of_two xs (part_left iface a text) none in
    record {
      sent = empty;
      cause = inl (record {
        none = ap (λ s. s ++ part_left iface a text) (sym empty) ∙ none;
        wrong = λ ends. off.wrong (m.reads.on rest (subst (λ (t : List ℕ). EndsWell a t) m.parts ends));
      });
    }

more_before : (iface : ℕ) (a b : Part) (xs ys text rest : List ℕ) (taken count : ℕ)
    → Moves iface text taken a xs rest count b ys → ys ≡ [] → FILE_OCTETS ≤ count → IsUnfinished b
    → Stops taken iface a xs text
more_before iface a b xs ys text rest taken count m sent full is =
    let here = part_left iface a (take (FILE_OCTETS - taken) text) in
    let zero_left : FILE_OCTETS - count ≡ 0 = omega (arith, full) in
    let none : xs ++ here ≡ [] =
    seen iface a b xs ys text rest taken count m
    ∙ ap (λ k. ys ++ part_left iface b (take k rest)) zero_left
    ∙ ap (λ s. s ++ part_left iface b []) sent ∙ ends_empty iface b is in
    let empty = none_of_two xs here none in
    record {
      sent = empty;
      cause = inr (record {
        beyond = omega (arith, full, m.counted, ap length m.parts, length-append m.piece rest);
        none = ap (λ s. s ++ here) (sym empty) ∙ none;
      });
    }

-- why it failed, by what was read
pub fails_so : (R F : Type 0) (iface : ℕ) (old new : Option (List ℕ)) (taken count : ℕ) (a b : Part) (xs ys : List ℕ)
    → Moved iface old taken a xs new count b ys → ys ≡ []
    → R ⊎ (IfSome new (IsOff iface b) ⊎ ((FILE_OCTETS ≤ count) × IsUnfinished b))
    → R ⊎ (IfSome old (Stops taken iface a xs) ⊎ F)
fails_so R F iface old new taken count a b xs ys moved sent (inl rose) = inl rose
fails_so R F iface None new taken count a b xs ys moved sent (inr cause) = inr (inl tt)
fails_so R F iface (Some text) None taken count a b xs ys moved sent (inr cause) = absurd moved
fails_so R F iface (Some text) (Some rest) taken count a b xs ys m sent (inr (inl off)) =
    inr (inl (off_before iface a b xs ys text rest taken count m sent off))
fails_so R F iface (Some text) (Some rest) taken count a b xs ys m sent (inr (inr more)) =
    inr (inl (more_before iface a b xs ys text rest taken count m sent more.0 more.1))
