-- The first octets of a piece, while it is read bit by bit.
use Rattle.std.proofs.Common.{◌≡◌, ℕ, zero, suc, ◌-◌, ◌<◌, ◌≤◌, min, List, [], ◌∷◌, ◌++◌, length, take}
use Rattle.std.proofs.Common.{Option, Some, None, IfSome, refl, ap, sym, ◌∙◌, append_assoc, length-append, arith}
use Rattle.std.proofs.Math.Seq.{take-append-add}
use Rattle.std.proofs.lemmas.List.{take_min}
use Rattle.std.specs.Io.KnownBytes.{Consumes, IsAtEnd, Keeps}
use Rattle.forward_worker.specs.Rounds.{SomeAreRead}

-- as many octets are put behind those that are there as there is room for
pub front_more : (m : ℕ) (xs ys : List ℕ) → length xs ≤ m
    → xs ++ take (min (length ys) (m - length xs)) ys ≡ take m (xs ++ ys)
front_more m xs ys le =
    ap (λ k. xs ++ take k ys) (omega arith)
    ∙ ap (λ t. xs ++ t) (take_min (m - length xs) ys)
    ∙ sym (take-append-add xs ys (m - length xs))
    ∙ ap (λ k. take k (xs ++ ys)) (omega (arith, le))

-- the front of a front and more is that of all
pub front_again : (m : ℕ) (xs ys : List ℕ) → take m (take m xs ++ ys) ≡ take m (xs ++ ys)
front_again zero xs ys = refl
front_again (suc m) [] ys = refl
front_again (suc m) (x ∷ xs) ys = ap (λ t. x ∷ t) (front_again m xs ys)

-- octets that were read one after the other
pub read_twice : (xs ys : List ℕ) (had mid has : Option (List ℕ)) → Consumes had mid xs → Consumes mid has ys
    → Consumes had has (xs ++ ys)
read_twice xs ys None mid has c d = tt
read_twice xs ys (Some text) None has c d = absurd c
read_twice xs ys (Some text) (Some rest) None c d = absurd d
read_twice xs ys (Some text) (Some rest) (Some last) c d =
    c ∙ ap (λ t. xs ++ t) d ∙ sym (append_assoc xs ys last)

pub some_twice : (had mid has : Option (List ℕ)) → SomeAreRead had mid → SomeAreRead mid has → SomeAreRead had has
some_twice had mid has c d = (c.0 ++ d.0, read_twice c.0 d.0 had mid has c.1 d.1)

-- a failed read leaves the source as it was
pub kept_read : (xs : List ℕ) (had mid has : Option (List ℕ)) → Consumes had mid xs → Keeps mid has → Consumes had has xs
kept_read xs None mid has c k = tt
kept_read xs (Some text) None has c k = absurd c
kept_read xs (Some text) (Some rest) None c k = absurd k
kept_read xs (Some text) (Some rest) (Some last) c k = c ∙ ap (λ t. xs ++ t) (sym k)

pub none_read : (old : Option (List ℕ)) → Consumes old old []
none_read None = tt
none_read (Some text) = refl

-- at the end all that was there was read
pub all_read : (n : ℕ) (xs : List ℕ) (had has : Option (List ℕ)) → Consumes had has xs → IsAtEnd has → length xs < n
    → IfSome had (λ text. length text < n)
all_read n xs None has c e lt = tt
all_read n xs (Some text) None c e lt = absurd c
all_read n xs (Some text) (Some rest) c e lt =
    omega (arith, lt, ap length c, length-append xs rest, ap length e)

-- where octets were read, there were some
pub some_there : (xs : List ℕ) (had has : Option (List ℕ)) → Consumes had has xs → 0 < length xs
    → IfSome had (λ text. 0 < length text)
some_there xs None has c lt = tt
some_there xs (Some text) None c lt = absurd c
some_there xs (Some text) (Some rest) c lt = omega (arith, lt, ap length c, length-append xs rest)
