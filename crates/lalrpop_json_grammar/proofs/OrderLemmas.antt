-- Reading order: one step further in, in byte order, and of texts that rise; for the laws of first faults.
use Rattle.std.proofs.Common.{◌≡◌, ℕ, ◌<◌, List, [], ◌∷◌, Bool, true, refl, ap, sym}
use Rattle.std.proofs.Common.{◌∙◌, inl, inr, ◌⊎◌}
use Rattle.std.proofs.Common.{Ordering, Less, Equal, Greater}
use Rattle.std.specs.Prelude.{◌&&◌}
use Rattle.std.specs.Ordering.{nat_cmp, is_eq, is_lt, ordering_reverse}
use Rattle.std.specs.Str.{bytes_eq}
use Rattle.std.proofs.lemmas.Map.Text.{is_eq-slice_cmp}
use Rattle.std.specs.Cmp.{tied_itself, nat_cmp_is, nat_cmp_total}
use Rattle.std.specs.Cmp.Lexicographic.{nat_list_cmp_total, same_text}
use Rattle.std.specs.List.{AllByRecursion}
use Rattle.lalrpop_json_values.specs.declared.fault.Fault.{Fault}
use Rattle.lalrpop_json_values.specs.declared.fault.Step.{Step}
use Rattle.lalrpop_json_values.specs.declared.fault.Step.TheVariants as step
use Rattle.lalrpop_json_values.specs.declared.key.Key.{Key}
use Rattle.lalrpop_json_values.specs.Key.{key_text}
use Rattle.lalrpop_json_grammar.specs.Faults.{IsAmong, inside}
use Rattle.lalrpop_json_grammar.specs.Order.{FaultComesBefore, order_of_steps, text_order}
use Rattle.lalrpop_grammar_symbols.proofs.BoolLemmas.{and_both}

-- the second is the first fault, or comes after it
abbrev pub IsNotBefore : Fault → Fault → Type 0
IsNotBefore f g = (g ≡ f) ⊎ FaultComesBefore f g

-- a text compares as equal to itself
pub text_itself : (s : List ℕ) → text_order s s ≡ Equal
text_itself s = tied_itself nat_list_cmp_total s

step_itself : (s : Step) → order_of_steps s s ≡ Equal
step_itself (step.Key k) = text_itself (key_text k)
step_itself (step.Index i) = tied_itself nat_cmp_total i

-- two faults at one place further in stand as they do there
pub inside_after : (s : Step) (f g : Fault) → IsNotBefore f g → IsNotBefore (inside s f) (inside s g)
inside_after s f g (inl e) = inl (ap (inside s) e)
inside_after s f g (inr h) = inr (rw (step_itself s) h)

-- what stands at an earlier step comes first
pub step_before : (s t : Step) (f g : Fault) → order_of_steps s t ≡ Less → FaultComesBefore (inside s f) (inside t g)
step_before s t f g h = rw h refl

-- a smaller index compares as less
pub index_less : (i j : ℕ) → i < j → nat_cmp i j ≡ Less
index_less i j h = sym (nat_cmp_is i j Less h)

-- ---- keys in byte order

-- whether a key comes in byte order before each of some keys
abbrev pub is_before_all : Key → List Key → Bool
is_before_all k [] = true
is_before_all k (l ∷ ls) = is_lt (text_order (key_text k) (key_text l)) && is_before_all k ls

-- each key in byte order behind those in front of it
abbrev pub are_in_order : List Key → Bool
are_in_order [] = true
are_in_order (k ∷ ks) = is_before_all k ks && are_in_order ks

pub less_is : (o : Ordering) → is_lt o ≡ true → o ≡ Less
less_is Less e = refl
less_is Equal e = absurd (cc)
less_is Greater e = absurd (cc)

-- a key that comes before each of some keys compares as less than any one of them
pub before_all : (k : Key) (ks : List Key) → is_before_all k ks ≡ true → (l : Key) → IsAmong ks l
    → text_order (key_text k) (key_text l) ≡ Less
before_all k [] h l s = absurd s
before_all k (m ∷ ms) h l (inl e) =
    let first = and_both (is_lt (text_order (key_text k) (key_text m))) (is_before_all k ms) h in
    rw e (less_is (text_order (key_text k) (key_text m)) first.0)
before_all k (m ∷ ms) h l (inr s) =
    let rest = and_both (is_lt (text_order (key_text k) (key_text m))) (is_before_all k ms) h in
    before_all k ms rest.1 l s

-- a key that comes before each of some keys comes before each of them but the first
pub before_tail : (k l : Key) (ks : List Key) → is_before_all k (l ∷ ks) ≡ true → is_before_all k ks ≡ true
before_tail k l ks h = (and_both (is_lt (text_order (key_text k) (key_text l))) (is_before_all k ks) h).1

-- of keys in order the first comes before each of the others
pub order_head : (k : Key) (ks : List Key) → are_in_order (k ∷ ks) ≡ true → is_before_all k ks ≡ true
order_head k ks h = (and_both (is_before_all k ks) (are_in_order ks) h).0

-- keys in order without the first are in order
pub order_tail : (k : Key) (ks : List Key) → are_in_order (k ∷ ks) ≡ true → are_in_order ks ≡ true
order_tail k ks h = (and_both (is_before_all k ks) (are_in_order ks) h).1

-- ---- texts that rise

-- a text that is less than each of some texts is less than any one among them
pub all_before : (l : List ℕ) (ls : List (List ℕ)) → AllByRecursion (λ m. text_order l m ≡ Less) ls → (m : List ℕ)
    → IsAmong ls m
    → text_order l m ≡ Less
all_before l [] h m s = absurd s
all_before l (x ∷ xs) h m (inl e) = rw e h.0
all_before l (x ∷ xs) h m (inr s) = all_before l xs h.1 m s

-- no text is before one that is before it
pub not_before_both : (k l : List ℕ) → text_order k l ≡ Less → text_order l k ≡ Less → ⊥
not_before_both k l a b =
    let turned : text_order k l ≡ Greater = nat_list_cmp_total.antisymm k l ∙ ap ordering_reverse b in absurd (cc)

-- texts that are the same pass the test of equal bytes
pub same_bytes : (s t : List ℕ) → s ≡ t → bytes_eq s t ≡ true
same_bytes s t e =
    ap (λ x. bytes_eq s x) (sym e) ∙ sym (is_eq-slice_cmp s s) ∙ ap is_eq (text_itself s)

-- texts that compare as equal are the same
pub equal_texts : (s t : List ℕ) → text_order s t ≡ Equal → s ≡ t
equal_texts s t e = same_text s t (sym (sym (is_eq-slice_cmp s t) ∙ ap is_eq e))
