-- A word names a recording and a peer or does not.
use Rattle.std.proofs.Common.{◌≡◌, ◌⊎◌, inl, inr, ℕ, ◌+◌, ◌<◌, ◌≤◌, List, [], ◌∷◌, ◌++◌, length, take, drop, ap, refl, sym, subst, ◌∙◌, arith, length-append}
use Rattle.std.specs.Prelude.{slice_index}
use Rattle.std.specs.Str.Iter.{LacksByte}
use Rattle.std.proofs.Math.Seq.{get_or-append_seam, take-append_seam, drop-append-add}
use Rattle.urpf_base.specs.declared.address.Addr.{Addr}
use Rattle.ip_text.specs.Texts.{SpellsAddr}
use Rattle.ip_text.proofs.Found.{cut_of, known_addr}
use Rattle.ip_text.proofs.Known.{known_less}
use Rattle.mrt_feed.specs.Words.{SpellsMrt}
use Rattle.mrt_feed.specs.declared.words.MrtSpec.{MrtSpec}
use Rattle.urpf_cli.proofs.Decisions.{IsSome, both_or_not, same_or_not, some_or_not, turned}

lacks_or_not : (text : List ℕ) → LacksByte 64 text ⊎ (¬ (LacksByte 64 text))
lacks_or_not text =
    elim (cut_of 64 text) [
      | inl lacks ↦ inl lacks
      | inr cut ↦ inr
          (λ lacks.
          lacks (length cut.0)
          (omega (arith, ap length cut.3, length-append cut.0 (64 ∷ cut.1)))
          (subst (λ t. slice_index t (length cut.0) ≡ 64) (sym cut.3) (get_or-append_seam cut.0 64 cut.1 0)))
    ]

-- behind the first words of it the word is cut so long behind its name
abbrev IsCut : List ℕ → ℕ → Type 0
IsCut rest n =
    (rest ≡ take n rest ++ (64 ∷ drop (n + 1) rest))
    × (LacksByte 64 (drop (n + 1) rest)
    × ((0 < length (take n rest)) × ((a : Addr) × SpellsAddr (drop (n + 1) rest) a)))

abbrev Named : List ℕ → Type 0
Named word = (word ≡ 109 ∷ 114 ∷ 116 ∷ 58 ∷ drop 4 word) × IsSome (IsCut (drop 4 word)) (length word)

forth : (word : List ℕ) → Named word → (spec : MrtSpec) × SpellsMrt word spec
forth word named =
    let rest = drop 4 word in
    let n = named.1.0 in
    let cut = named.1.2 in (
      record { peer = cut.1.1.1.0; from = 4; to = 4 + length (take n rest) },
      record {
        file = take n rest;
        peer = drop (n + 1) rest;
        parts = named.0 ∙ ap (λ r. 109 ∷ 114 ∷ 116 ∷ 58 ∷ r) cut.0;
        last = cut.1.0;
        some = cut.1.1.0;
        spelled = cut.1.1.1.1;
        from_is = refl;
        to_is = refl;
      },
    )

cut_here : (file peer : List ℕ) (a : Addr) → LacksByte 64 peer → 0 < length file → SpellsAddr peer a
    → IsCut (file ++ (64 ∷ peer)) (length file)
cut_here file peer a lacks some spelled =
    let front : take (length file) (file ++ (64 ∷ peer)) ≡ file = take-append_seam file (64 ∷ peer) in
    let behind : drop (length file + 1) (file ++ (64 ∷ peer)) ≡ peer = drop-append-add file (64 ∷ peer) 1 in (
      sym (ap (λ f. f ++ (64 ∷ drop (length file + 1) (file ++ (64 ∷ peer)))) front ∙ ap (λ p. file ++ (64 ∷ p)) behind),
      (
        subst (λ p. LacksByte 64 p) (sym behind) lacks,
        (subst (λ f. 0 < length f) (sym front) some, (a, subst (λ p. SpellsAddr p a) (sym behind) spelled)),
      ),
    )

back : (word : List ℕ) → (spec : MrtSpec) × SpellsMrt word spec → Named word
back word one =
    let s = one.1 in
    let rest : drop 4 word ≡ s.file ++ (64 ∷ s.peer) = ap (drop 4) s.parts in (
      s.parts ∙ sym (ap (λ r. 109 ∷ 114 ∷ 116 ∷ 58 ∷ r) rest),
      (
        length s.file,
        omega (arith, ap length s.parts, length-append s.file (64 ∷ s.peer)),
        subst (λ r. IsCut r (length s.file)) (sym rest) (cut_here s.file s.peer one.0.peer s.last s.some s.spelled),
      ),
    )

pub recording_or_not : (word : List ℕ)
    → ((spec : MrtSpec) × SpellsMrt word spec) ⊎ (¬ ((spec : MrtSpec) × SpellsMrt word spec))
recording_or_not word =
    turned (forth word) (back word)
    (both_or_not (same_or_not word (109 ∷ 114 ∷ 116 ∷ 58 ∷ drop 4 word))
    (some_or_not (IsCut (drop 4 word))
    (λ n. both_or_not (same_or_not (drop 4 word) (take n (drop 4 word) ++ (64 ∷ drop (n + 1) (drop 4 word))))
    (both_or_not (lacks_or_not (drop (n + 1) (drop 4 word)))
    (both_or_not (known_less 0 (length (take n (drop 4 word)))) (known_addr (drop (n + 1) (drop 4 word))))))
    (length word)))
