-- Words ask for one thing.
use Rattle.std.proofs.Common.{◌≡◌, ℕ, List, sym, subst, refl, Option, Some, None, IfSome}
use Rattle.urpf_base.specs.declared.address.Addr.{Addr}
use Rattle.urpf_cli.specs.Words.{AreCheckWords, AreOfflineWords, AskFor, PairsFrom, Request, check, offline}
use Rattle.urpf_cli.specs.Words.{request_of}
use Rattle.urpf_cli.specs.declared.words.Command.{Command}

-- no words are of both forms
pub never_both : (words : List (List ℕ)) (source : Addr) → AreCheckWords words source → AreOfflineWords words → ⊥
never_both words source are others = cc

-- what words of one form ask for is all that they ask for
pub offline_alone : (words : List (List ℕ)) (got : Request) → AreOfflineWords words
    → ((are : AreOfflineWords words) → got ≡ offline are.config are.book are.pairs are.sessions) → (r : Request)
    → AskFor words r → got ≡ r
offline_alone words got are only (check session source) asked = absurd (never_both words source asked.0 are)
offline_alone words got are only (offline config book pairs sessions) asked = let same = only asked.0 in cc

pub check_alone : (words : List (List ℕ)) (got : Request) → (AreOfflineWords words → ⊥)
    → ((source : Addr) (are : AreCheckWords words source) → got ≡ check are.session source) → (r : Request)
    → AskFor words r → got ≡ r
check_alone words got never only (check session source) asked = let same = only source asked.0 in cc
check_alone words got never only (offline config book pairs sessions) asked = absurd (never asked.0)

-- the words of a form ask for what a command of that form asks for
pub offline_asked : (words : List (List ℕ)) (got : Request) (are : AreOfflineWords words)
    → got ≡ offline are.config are.book are.pairs are.sessions → AskFor words got
offline_asked words got are is = subst (λ r. AskFor words r) (sym is) (are, refl, refl, refl, refl)

pub check_asked : (words : List (List ℕ)) (command : Option Command)
    → IfSome command (λ c. (source : Addr) × (are : AreCheckWords words source)
    × (request_of c ≡ check are.session source)) → IfSome command (λ c. AskFor words (request_of c))
check_asked words None found = tt
check_asked words (Some c) found = subst (λ r. AskFor words r) (sym found.2) (found.1, refl)

pub same_offline : (a b c d : List ℕ) (p q : PairsFrom) (s t : List (List ℕ)) → a ≡ b → c ≡ d → p ≡ q → s ≡ t
    → offline a c p s ≡ offline b d q t
same_offline a b c d p q s t config book pairs sessions = cc
