-- Words that say one thing say nothing else.
use Rattle.std.proofs.Common.{◌≡◌, ℕ, ◌^◌, ◌<◌, ◌≤◌, List, [], ◌∷◌, length, Option, Some, None, refl, ap, sym, subst}
use Rattle.std.proofs.Common.{◌∙◌, arith, false}
use Rattle.std.specs.Prelude.{bytes_eq, codes, decimal, slice_index}
use Rattle.std.proofs.lemmas.Bool.{false≢true}
use Rattle.std.proofs.lemmas.Slice.Eq.{bytes_eq-Decides}
use Rattle.std.proofs.lemmas.Fmt.{decimal_injective}
use Rattle.ip_text.proofs.Addresses.{one_addr}
use Rattle.ip_text.proofs.Decimals.{decimal_lacks}
use Rattle.ip_text.proofs.PrefixTexts.{one_asn, one_prefix}
use Rattle.ip_text.specs.Prefixes.{SpellsAsn, SpellsPrefix}
use Rattle.urpf_base.specs.Address.{Block}
use Rattle.urpf_base.specs.declared.kinds.Mode.{Mode}
use Rattle.urpf_base.specs.declared.kinds.Mode.TheVariants as mode
use Rattle.urpf_base.specs.declared.kinds.Role.{Role}
use Rattle.urpf_base.specs.declared.kinds.Role.TheVariants as role
use Rattle.router_config.specs.Names.{mode_name, mode_named, role_name, role_named}
use Rattle.runbook.specs.declared.saying.Act.{Act}
use Rattle.runbook.specs.declared.saying.Act.TheVariants as act
use Rattle.runbook.specs.declared.saying.Alone.{Alone}
use Rattle.runbook.specs.declared.saying.Alone.TheVariants as alone
use Rattle.runbook.specs.declared.saying.PairAct.{PairAct}
use Rattle.runbook.specs.declared.saying.PairAct.TheVariants as pair
use Rattle.runbook.specs.declared.saying.Said.{Said}
use Rattle.runbook.specs.declared.saying.Said.TheVariants as said
use Rattle.runbook.specs.Says.{NamesCount, NamesSession, Says, SpellsAct, act_word, alone_word, pair_word}

-- no number is written `all`
pub all_is_no_number : (n : ℕ) → n ≤ 1000000000 → codes "all" ≡ decimal n → ⊥
all_is_no_number n within is =
    let small : n < 2 ^ 64 = omega arith in
    let lacks = decimal_lacks n 97 small (λ r. omega arith) in
    lacks 0 (subst (λ t. 0 < length t) is (omega arith)) (subst (λ t. slice_index t 0 ≡ 97) is refl)

-- no number is written `*`
pub star_is_no_number : (n : ℕ) → n ≤ 65535 → codes "*" ≡ decimal n → ⊥
star_is_no_number n within is =
    let small : n < 2 ^ 64 = omega arith in
    let lacks = decimal_lacks n 42 small (λ r. omega arith) in
    lacks 0 (subst (λ t. 0 < length t) is (omega arith)) (subst (λ t. slice_index t 0 ≡ 42) is refl)

pub tail : {X : Type 0} {x y : X} {xs ys : List X} → x ∷ xs ≡ y ∷ ys → xs ≡ ys
tail e = cc

-- words of three are the same one by one
pub second : {a b c x y z : List ℕ} → a ∷ b ∷ c ∷ [] ≡ x ∷ y ∷ z ∷ [] → b ≡ y
second e = cc

pub third : {a b c x y z : List ℕ} → a ∷ b ∷ c ∷ [] ≡ x ∷ y ∷ z ∷ [] → c ≡ z
third e = cc

pub first : {a x : List ℕ} {more others : List (List ℕ)} → a ∷ more ≡ x ∷ others → a ≡ x
first e = cc

pub of_some : {X : Type 0} {x y : X} → Some x ≡ Some y → x ≡ y
of_some e = cc

pub same_number : (m n : ℕ) → m ≤ 1000000000 → n ≤ 1000000000 → decimal m ≡ decimal n → m ≡ n
same_number m n within within_too e = decimal_injective m n (omega arith) (omega arith) e

pub one_session : (word : List ℕ) (s t : Option ℕ) → NamesSession word s → NamesSession word t → s ≡ t
one_session word None None h k = refl
one_session word None (Some n) h k = absurd (star_is_no_number n k.0 (sym h ∙ k.1))
one_session word (Some m) None h k = absurd (star_is_no_number m h.0 (sym k ∙ h.1))
one_session word (Some m) (Some n) h k =
    ap (λ i. Some i) (same_number m n (omega (arith, h.0)) (omega (arith, k.0)) (sym h.1 ∙ k.1))

pub one_count : (word : List ℕ) (s t : Option ℕ) → NamesCount word s → NamesCount word t → s ≡ t
one_count word None None h k = refl
one_count word None (Some n) h k = absurd (all_is_no_number n k.0 (sym h ∙ k.1))
one_count word (Some m) None h k = absurd (all_is_no_number m h.0 (sym k ∙ h.1))
one_count word (Some m) (Some n) h k = ap (λ i. Some i) (same_number m n h.0 k.0 (sym h.1 ∙ k.1))

-- texts that are compared as two
pub differs : (a b : List ℕ) → bytes_eq a b ≡ false → a ≡ b → ⊥
differs a b other e = false≢true (sym other ∙ (bytes_eq-Decides a b).1 e)

pub one_alone : (a b : Alone) → alone_word a ≡ alone_word b → a ≡ b
one_alone alone.Publish alone.Publish e = refl
one_alone alone.Publish alone.Round e = absurd (differs (codes "publish") (codes "round") refl e)
one_alone alone.Publish alone.Summary e = absurd (differs (codes "publish") (codes "summary") refl e)
one_alone alone.Round alone.Publish e = absurd (differs (codes "round") (codes "publish") refl e)
one_alone alone.Round alone.Round e = refl
one_alone alone.Round alone.Summary e = absurd (differs (codes "round") (codes "summary") refl e)
one_alone alone.Summary alone.Publish e = absurd (differs (codes "summary") (codes "publish") refl e)
one_alone alone.Summary alone.Round e = absurd (differs (codes "summary") (codes "round") refl e)
one_alone alone.Summary alone.Summary e = refl

role_known : (r : Role) → role_named (role_name r) ≡ Some r
role_known role.Customer = refl
role_known role.Peer = refl
role_known role.Provider = refl

one_role : (r s : Role) → role_name r ≡ role_name s → r ≡ s
one_role r s e = of_some (sym (role_known r) ∙ ap role_named e ∙ role_known s)

mode_known : (m : Mode) → mode_named (mode_name m) ≡ Some m
mode_known mode.Off = refl
mode_known mode.Feasible = refl
mode_known mode.Loose = refl
mode_known mode.LooseNoDefault = refl
mode_known mode.EfpA = refl
mode_known mode.EfpB = refl

one_mode : (m n : Mode) → mode_name m ≡ mode_name n → m ≡ n
one_mode m n e = of_some (sym (mode_known m) ∙ ap mode_named e ∙ mode_known n)

pub one_act : (word : List ℕ) (a b : Act) → act_word a ≡ act_word b → SpellsAct word a → SpellsAct word b → a ≡ b
one_act word (act.Check x) (act.Check y) e h k = ap (λ i. act.Check i) (one_addr word x y h k)
one_act word (act.Check x) (act.Role s) e h k = absurd (differs (codes "check") (codes "role") refl e)
one_act word (act.Check x) (act.Mode n) e h k = absurd (differs (codes "check") (codes "mode") refl e)
one_act word (act.Role r) (act.Check y) e h k = absurd (differs (codes "role") (codes "check") refl e)
one_act word (act.Role r) (act.Role s) e h k = ap (λ i. act.Role i) (one_role r s (sym h ∙ k))
one_act word (act.Role r) (act.Mode n) e h k = absurd (differs (codes "role") (codes "mode") refl e)
one_act word (act.Mode m) (act.Check y) e h k = absurd (differs (codes "mode") (codes "check") refl e)
one_act word (act.Mode m) (act.Role s) e h k = absurd (differs (codes "mode") (codes "role") refl e)
one_act word (act.Mode m) (act.Mode n) e h k = ap (λ i. act.Mode i) (one_mode m n (sym h ∙ k))

pub pull_is_no_act : (a : Act) → codes "pull" ≡ act_word a → ⊥
pull_is_no_act (act.Check addr) e = differs (codes "pull") (codes "check") refl e
pull_is_no_act (act.Role role) e = differs (codes "pull") (codes "role") refl e
pull_is_no_act (act.Mode mode) e = differs (codes "pull") (codes "mode") refl e

pub pull_is_not_alone : (a : Alone) → codes "pull" ≡ alone_word a → ⊥
pull_is_not_alone alone.Publish e = differs (codes "pull") (codes "publish") refl e
pull_is_not_alone alone.Round e = differs (codes "pull") (codes "round") refl e
pull_is_not_alone alone.Summary e = differs (codes "pull") (codes "summary") refl e

pub pair_is_no_act : (a : Act) → codes "pair" ≡ act_word a → ⊥
pair_is_no_act (act.Check addr) e = differs (codes "pair") (codes "check") refl e
pair_is_no_act (act.Role role) e = differs (codes "pair") (codes "role") refl e
pair_is_no_act (act.Mode mode) e = differs (codes "pair") (codes "mode") refl e

pub pair_is_not_alone : (a : Alone) → codes "pair" ≡ alone_word a → ⊥
pair_is_not_alone alone.Publish e = differs (codes "pair") (codes "publish") refl e
pair_is_not_alone alone.Round e = differs (codes "pair") (codes "round") refl e
pair_is_not_alone alone.Summary e = differs (codes "pair") (codes "summary") refl e

pub one_pair_act : (a b : PairAct) → pair_word a ≡ pair_word b → a ≡ b
one_pair_act pair.Add pair.Add e = refl
one_pair_act pair.Add pair.Del e = absurd (differs (codes "add") (codes "del") refl e)
one_pair_act pair.Del pair.Add e = absurd (differs (codes "del") (codes "add") refl e)
one_pair_act pair.Del pair.Del e = refl

-- words of four are the same one by one
pub second_of_four : {a b c d w x y z : List ℕ} → a ∷ b ∷ c ∷ d ∷ [] ≡ w ∷ x ∷ y ∷ z ∷ [] → b ≡ x
second_of_four e = cc

pub third_of_four : {a b c d w x y z : List ℕ} → a ∷ b ∷ c ∷ d ∷ [] ≡ w ∷ x ∷ y ∷ z ∷ [] → c ≡ y
third_of_four e = cc

pub fourth : {a b c d w x y z : List ℕ} → a ∷ b ∷ c ∷ d ∷ [] ≡ w ∷ x ∷ y ∷ z ∷ [] → d ≡ z
fourth e = cc

one_of_four : {a w x y z : List ℕ} → a ∷ [] ≡ w ∷ x ∷ y ∷ z ∷ [] → ⊥
one_of_four e = let t = tail e in cc

three_of_four : {a b c w x y z : List ℕ} → a ∷ b ∷ c ∷ [] ≡ w ∷ x ∷ y ∷ z ∷ [] → ⊥
three_of_four e = let t = tail (tail (tail e)) in cc

one_of_three : {a x y z : List ℕ} → a ∷ [] ≡ x ∷ y ∷ z ∷ [] → ⊥
one_of_three e = let t = tail e in cc

-- words say one thing at most
pub one_saying : (words : List (List ℕ)) (s t : Said) → Says words s → Says words t → s ≡ t
one_saying words (said.Pull a m) (said.Pull b n) h k =
    let e = sym h.4 ∙ k.4 in
    let session : a ≡ b = one_session h.0 a b h.2 (subst (λ t. NamesSession t b) (sym (second e)) k.2) in
    let count : m ≡ n = one_count h.1 m n h.3 (subst (λ t. NamesCount t n) (sym (third e)) k.3) in
    λ i. said.Pull (session i) (count i)
one_saying words (said.Pull a m) (said.Alone one) h k = absurd (one_of_three (sym k ∙ h.4))
one_saying words (said.Pull a m) (said.At i act) h k = absurd (pull_is_no_act act (first (sym h.4 ∙ k.3)))
one_saying words (said.Alone one) (said.Pull b n) h k = absurd (one_of_three (sym h ∙ k.4))
one_saying words (said.Alone one) (said.Alone other) h k =
    ap (λ a. said.Alone a) (one_alone one other (first (sym h ∙ k)))
one_saying words (said.Alone one) (said.At i act) h k = absurd (one_of_three (sym h ∙ k.3))
one_saying words (said.At i act) (said.Pull b n) h k = absurd (pull_is_no_act act (first (sym k.4 ∙ h.3)))
one_saying words (said.At i act) (said.Alone one) h k = absurd (one_of_three (sym k ∙ h.3))
one_saying words (said.At i one) (said.At j other) h k =
    let e = sym h.3 ∙ k.3 in
    let iface : i ≡ j = same_number i j (omega (arith, h.0)) (omega (arith, k.0)) (second e) in
    let act : one ≡ other =
    one_act h.1 one other (first e) h.2 (subst (λ t. SpellsAct t other) (sym (third e)) k.2) in
    λ x. said.At (iface x) (act x)
one_saying words (said.Pull a m) (said.Pair act p n) h k = absurd (three_of_four (sym h.4 ∙ k.4))
one_saying words (said.Alone one) (said.Pair act p n) h k = absurd (one_of_four (sym h ∙ k.4))
one_saying words (said.At i one) (said.Pair act p n) h k = absurd (three_of_four (sym h.3 ∙ k.4))
one_saying words (said.Pair act p n) (said.Pull a m) h k = absurd (three_of_four (sym k.4 ∙ h.4))
one_saying words (said.Pair act p n) (said.Alone one) h k = absurd (one_of_four (sym k ∙ h.4))
one_saying words (said.Pair act p n) (said.At i one) h k = absurd (three_of_four (sym k.3 ∙ h.4))
one_saying words (said.Pair one p m) (said.Pair other q n) h k =
    let e = sym h.4 ∙ k.4 in
    let act : one ≡ other = one_pair_act one other (second_of_four e) in
    let prefix : p ≡ q = one_prefix h.0 p q h.2 (subst (λ t. SpellsPrefix t q) (sym (third_of_four e)) k.2) in
    let asn : m ≡ n = one_asn h.1 m n h.3 (subst (λ t. SpellsAsn t n) (sym (fourth e)) k.3) in
    λ i. said.Pair (act i) (prefix i) (asn i)

-- words that begin with `pull` say a pull and nothing else
pub pull_only : (word : List ℕ) (more : List (List ℕ)) (read : Option Said) → word ≡ codes "pull"
    → ((session count : Option ℕ) → Says (codes "pull" ∷ more) (said.Pull session count)
    → read ≡ Some (said.Pull session count))
    → (s : Said) → Says (word ∷ more) s → read ≡ Some s
pull_only word more read is only (said.Pull session count) h =
    only session count (subst (λ w. Says (w ∷ more) (said.Pull session count)) is h)
pull_only word more read is only (said.Alone one) h = absurd (pull_is_not_alone one (sym is ∙ first h))
pull_only word more read is only (said.At iface act) h = absurd (pull_is_no_act act (sym is ∙ first h.3))
pull_only word more read is only (said.Pair act p n) h =
    absurd (differs (codes "pull") (codes "pair") refl (sym is ∙ first h.4))

-- words that begin with `pair` say what is done with a pair and nothing else
pub pair_only : (word : List ℕ) (more : List (List ℕ)) (read : Option Said) → word ≡ codes "pair"
    → ((act : PairAct) (p : Block) (n : ℕ) → Says (codes "pair" ∷ more) (said.Pair act p n)
    → read ≡ Some (said.Pair act p n))
    → (s : Said) → Says (word ∷ more) s → read ≡ Some s
pair_only word more read is only (said.Pull session count) h =
    absurd (differs (codes "pair") (codes "pull") refl (sym is ∙ first h.4))
pair_only word more read is only (said.Alone one) h = absurd (pair_is_not_alone one (sym is ∙ first h))
pair_only word more read is only (said.At iface act) h = absurd (pair_is_no_act act (sym is ∙ first h.3))
pair_only word more read is only (said.Pair act p n) h =
    only act p n (subst (λ w. Says (w ∷ more) (said.Pair act p n)) is h)

-- words that begin otherwise, and with no word that stands alone, say what is done on an interface
pub at_only : (word : List ℕ) (more : List (List ℕ)) (read : Option Said) → (word ≡ codes "pull" → ⊥)
    → (word ≡ codes "pair" → ⊥)
    → ((one : Alone) → word ≡ alone_word one → ⊥)
    → ((iface : ℕ) (act : Act) → Says (word ∷ more) (said.At iface act) → read ≡ Some (said.At iface act))
    → (s : Said) → Says (word ∷ more) s → read ≡ Some s
at_only word more read no_pull no_pair no_alone only (said.Pull session count) h = absurd (no_pull (first h.4))
at_only word more read no_pull no_pair no_alone only (said.Alone one) h = absurd (no_alone one (first h))
at_only word more read no_pull no_pair no_alone only (said.At iface act) h = only iface act h
at_only word more read no_pull no_pair no_alone only (said.Pair act p n) h = absurd (no_pair (first h.4))
