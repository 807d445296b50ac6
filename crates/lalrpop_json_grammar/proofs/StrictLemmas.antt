-- Reading order is a strict order of faults; for reading_order.
use Rattle.std.proofs.Common.{◌≡◌, ℕ, List, [], ◌∷◌, Bool, true, false, refl, ap, ◌∙◌}
use Rattle.std.proofs.Common.{Ordering, Less, Equal, Greater}
use Rattle.std.specs.Prelude.{not}
use Rattle.std.specs.Ordering.{is_lt, match_ordering, ordering_reverse}
use Rattle.std.specs.Cmp.{nat_cmp_total}
use Rattle.std.specs.Cmp.Lexicographic.{nat_list_cmp_total}
use Rattle.lalrpop_json_values.specs.declared.fault.FaultKind.{FaultKind}
use Rattle.lalrpop_json_values.specs.declared.fault.FaultKind.TheVariants as fault
use Rattle.lalrpop_json_values.specs.declared.fault.Step.{Step}
use Rattle.lalrpop_json_values.specs.declared.fault.Step.TheVariants as step
use Rattle.lalrpop_json_values.specs.Key.{key_text}
use Rattle.lalrpop_json_grammar.specs.FaultLaws.{EarlierComesBeforeLater, NoneComesBeforeAnEarlier}
use Rattle.lalrpop_json_grammar.specs.Order.{fault_before, is_behind, kind_before, order_of_steps, text_order}
use Rattle.lalrpop_json_grammar.proofs.OrderLemmas.{less_is}

-- ---- steps

step_turned : (p q : Step) → order_of_steps p q ≡ ordering_reverse (order_of_steps q p)
step_turned (step.Key k) (step.Key l) = nat_list_cmp_total.antisymm (key_text k) (key_text l)
step_turned (step.Key k) (step.Index j) = refl
step_turned (step.Index i) (step.Key l) = refl
step_turned (step.Index i) (step.Index j) = nat_cmp_total.antisymm i j

step_through : (p q r : Step) → order_of_steps p q ≡ Less → order_of_steps q r ≡ Less → order_of_steps p r ≡ Less
step_through (step.Key k) (step.Key l) (step.Key m) a b = nat_list_cmp_total.trans (key_text k) (key_text l) (key_text m) a b
step_through (step.Key k) q (step.Index n) a b = refl
step_through (step.Key k) (step.Index j) (step.Key m) a b = absurd (cc)
step_through (step.Index i) (step.Key l) r a b = absurd (cc)
step_through (step.Index i) (step.Index j) (step.Key m) a b = absurd (cc)
step_through (step.Index i) (step.Index j) (step.Index n) a b = nat_cmp_total.trans i j n a b

step_level : (p q r : Step) → order_of_steps p q ≡ Equal → order_of_steps p r ≡ order_of_steps q r
step_level (step.Key k) (step.Key l) (step.Key m) a = nat_list_cmp_total.congr (key_text k) (key_text l) (key_text m) a
step_level (step.Key k) (step.Key l) (step.Index n) a = refl
step_level (step.Key k) (step.Index j) r a = absurd (cc)
step_level (step.Index i) (step.Key l) r a = absurd (cc)
step_level (step.Index i) (step.Index j) (step.Key m) a = refl
step_level (step.Index i) (step.Index j) (step.Index n) a = nat_cmp_total.congr i j n a

-- ---- kinds

less_once : (k l : List ℕ) → is_lt (text_order k l) ≡ true → is_lt (text_order l k) ≡ true → ⊥
less_once k l a b = by (text_order k l) (text_order l k) (nat_list_cmp_total.antisymm k l) a b
  where
    by : (o r : Ordering) → o ≡ ordering_reverse r → is_lt o ≡ true → is_lt r ≡ true → ⊥
    by Less Less e a b = absurd (cc)
    by Less Equal e a b = absurd (cc)
    by Less Greater e a b = absurd (cc)
    by Equal r e a b = absurd (cc)
    by Greater r e a b = absurd (cc)

less_through : (k l m : List ℕ) → is_lt (text_order k l) ≡ true → is_lt (text_order l m) ≡ true
    → is_lt (text_order k m) ≡ true
less_through k l m a b =
    ap is_lt (nat_list_cmp_total.trans k l m (less_is (text_order k l) a) (less_is (text_order l m) b))

kind_once : (a b : FaultKind) → kind_before a b ≡ true → kind_before b a ≡ true → ⊥
kind_once (fault.MissingKey k) (fault.MissingKey l) h i = less_once (key_text k) (key_text l) h i
kind_once (fault.UnknownKey k) (fault.UnknownKey l) h i = less_once k l h i
kind_once (fault.MissingKey k) (fault.UnknownKey l) h i = absurd (cc)
kind_once (fault.MissingKey k) fault.WrongShape h i = absurd (cc)
kind_once (fault.MissingKey k) fault.BadName h i = absurd (cc)
kind_once (fault.MissingKey k) fault.BadNumber h i = absurd (cc)
kind_once (fault.UnknownKey k) (fault.MissingKey l) h i = absurd (cc)
kind_once (fault.UnknownKey k) fault.WrongShape h i = absurd (cc)
kind_once (fault.UnknownKey k) fault.BadName h i = absurd (cc)
kind_once (fault.UnknownKey k) fault.BadNumber h i = absurd (cc)
kind_once fault.WrongShape (fault.MissingKey l) h i = absurd (cc)
kind_once fault.WrongShape (fault.UnknownKey l) h i = absurd (cc)
kind_once fault.WrongShape fault.WrongShape h i = absurd (cc)
kind_once fault.WrongShape fault.BadName h i = absurd (cc)
kind_once fault.WrongShape fault.BadNumber h i = absurd (cc)
kind_once fault.BadName (fault.MissingKey l) h i = absurd (cc)
kind_once fault.BadName (fault.UnknownKey l) h i = absurd (cc)
kind_once fault.BadName fault.WrongShape h i = absurd (cc)
kind_once fault.BadName fault.BadName h i = absurd (cc)
kind_once fault.BadName fault.BadNumber h i = absurd (cc)
kind_once fault.BadNumber b h i = absurd (cc)

-- what comes before a fault told behind the rest is itself told in front, and what comes behind one told behind is none
kind_behind : (a b : FaultKind) → kind_before a b ≡ true → is_behind a ≡ false
kind_behind (fault.MissingKey k) b h = refl
kind_behind (fault.UnknownKey k) b h = refl
kind_behind fault.WrongShape b h = refl
kind_behind fault.BadName b h = refl
kind_behind fault.BadNumber b h = absurd (cc)

before_behind : (a b : FaultKind) → is_behind a ≡ false → is_behind b ≡ true → kind_before a b ≡ true
before_behind a (fault.MissingKey l) h i = absurd (cc)
before_behind a (fault.UnknownKey l) h i = absurd (cc)
before_behind a fault.WrongShape h i = absurd (cc)
before_behind a fault.BadName h i = absurd (cc)
before_behind (fault.MissingKey k) fault.BadNumber h i = refl
before_behind (fault.UnknownKey k) fault.BadNumber h i = refl
before_behind fault.WrongShape fault.BadNumber h i = refl
before_behind fault.BadName fault.BadNumber h i = refl
before_behind fault.BadNumber fault.BadNumber h i = absurd (cc)

kind_through : (a b c : FaultKind) → kind_before a b ≡ true → kind_before b c ≡ true → kind_before a c ≡ true
kind_through (fault.MissingKey k) (fault.MissingKey l) (fault.MissingKey m) h i = less_through (key_text k) (key_text l) (key_text m) h i
kind_through (fault.MissingKey k) (fault.UnknownKey l) (fault.MissingKey m) h i = absurd (cc)
kind_through (fault.MissingKey k) fault.WrongShape (fault.MissingKey m) h i = absurd (cc)
kind_through (fault.MissingKey k) fault.BadName (fault.MissingKey m) h i = absurd (cc)
kind_through (fault.MissingKey k) fault.BadNumber (fault.MissingKey m) h i = absurd (cc)
kind_through (fault.MissingKey k) b (fault.UnknownKey m) h i = refl
kind_through (fault.MissingKey k) b fault.WrongShape h i = refl
kind_through (fault.MissingKey k) b fault.BadName h i = refl
kind_through (fault.MissingKey k) b fault.BadNumber h i = refl
kind_through (fault.UnknownKey k) (fault.MissingKey l) c h i = absurd (cc)
kind_through (fault.UnknownKey k) (fault.UnknownKey l) (fault.MissingKey m) h i = absurd (cc)
kind_through (fault.UnknownKey k) (fault.UnknownKey l) (fault.UnknownKey m) h i = less_through k l m h i
kind_through (fault.UnknownKey k) b fault.WrongShape h i = refl
kind_through (fault.UnknownKey k) b fault.BadName h i = refl
kind_through (fault.UnknownKey k) b fault.BadNumber h i = refl
kind_through (fault.UnknownKey k) fault.WrongShape (fault.MissingKey m) h i = absurd (cc)
kind_through (fault.UnknownKey k) fault.WrongShape (fault.UnknownKey m) h i = absurd (cc)
kind_through (fault.UnknownKey k) fault.BadName (fault.MissingKey m) h i = absurd (cc)
kind_through (fault.UnknownKey k) fault.BadName (fault.UnknownKey m) h i = absurd (cc)
kind_through (fault.UnknownKey k) fault.BadNumber c h i = absurd (cc)
kind_through fault.WrongShape (fault.MissingKey l) c h i = absurd (cc)
kind_through fault.WrongShape (fault.UnknownKey l) c h i = absurd (cc)
kind_through fault.WrongShape fault.WrongShape c h i = absurd (cc)
kind_through fault.WrongShape fault.BadName c h i = absurd (cc)
kind_through fault.WrongShape fault.BadNumber c h i = absurd (cc)
kind_through fault.BadName (fault.MissingKey l) c h i = absurd (cc)
kind_through fault.BadName (fault.UnknownKey l) c h i = absurd (cc)
kind_through fault.BadName fault.WrongShape c h i = absurd (cc)
kind_through fault.BadName fault.BadName c h i = absurd (cc)
kind_through fault.BadName fault.BadNumber c h i = absurd (cc)
kind_through fault.BadNumber b c h i = absurd (cc)

-- ---- paths

not_both : (b : Bool) → not b ≡ true → b ≡ true → ⊥
not_both true h i = absurd (cc)
not_both false h i = absurd (cc)

first_once : (ps : List Step) (k : FaultKind) (qs : List Step) (l : FaultKind) → fault_before ps k qs l ≡ true
    → fault_before qs l ps k ≡ true → ⊥
first_once [] k [] l h i = kind_once k l h i
first_once [] k (q ∷ qs) l h i = not_both (is_behind k) h i
first_once (p ∷ ps) k [] l h i = not_both (is_behind l) i h
first_once (p ∷ ps) k (q ∷ qs) l h i =
    by (order_of_steps p q) (order_of_steps q p) (step_turned p q) h i (first_once ps k qs l)
  where
    by : (o r : Ordering) → o ≡ ordering_reverse r → match_ordering o true (fault_before ps k qs l) false ≡ true
        → match_ordering r true (fault_before qs l ps k) false ≡ true
        → (fault_before ps k qs l ≡ true → fault_before qs l ps k ≡ true → ⊥) → ⊥
    by Less Less e h i rest = absurd (cc)
    by Less Equal e h i rest = absurd (cc)
    by Less Greater e h i rest = absurd (cc)
    by Equal Less e h i rest = absurd (cc)
    by Equal Equal e h i rest = rest h i
    by Equal Greater e h i rest = absurd (cc)
    by Greater r e h i rest = absurd (cc)

-- what stands at an equal step stands as that does
step_right : (p q r : Step) → order_of_steps p q ≡ Less → order_of_steps q r ≡ Equal → order_of_steps p r ≡ Less
step_right p q r less equal =
    let back : order_of_steps r q ≡ Equal = step_turned r q ∙ ap ordering_reverse equal in
    step_turned p r
    ∙ ap ordering_reverse (step_level r q p back)
    ∙ ap ordering_reverse (step_turned q p ∙ ap ordering_reverse less)

front_of : (b : Bool) → b ≡ false → not b ≡ true
front_of true e = absurd (cc)
front_of false e = refl

back_of : (b : Bool) → not b ≡ true → b ≡ false
back_of true e = absurd (cc)
back_of false e = refl

first_through : (ps : List Step) (k : FaultKind) (qs : List Step) (l : FaultKind) (rs : List Step) (m : FaultKind)
    → fault_before ps k qs l ≡ true
    → fault_before qs l rs m ≡ true → fault_before ps k rs m ≡ true
first_through [] k [] l [] m h i = kind_through k l m h i
first_through [] k [] l (r ∷ rs) m h i = front_of (is_behind k) (kind_behind k l h)
first_through [] k (q ∷ qs) l [] m h i = before_behind k m (back_of (is_behind k) h) i
first_through [] k (q ∷ qs) l (r ∷ rs) m h i = h
first_through (p ∷ ps) k [] l [] m h i = let front : is_behind l ≡ false = kind_behind l m i in absurd (cc)
first_through (p ∷ ps) k [] l (r ∷ rs) m h i = absurd (not_both (is_behind l) i h)
first_through (p ∷ ps) k (q ∷ qs) l [] m h i = i
first_through (p ∷ ps) k (q ∷ qs) l (r ∷ rs) m h i =
    by (order_of_steps p q) (order_of_steps q r) refl refl h i (first_through ps k qs l rs m)
  where
    by : (o u : Ordering) → order_of_steps p q ≡ o → order_of_steps q r ≡ u
        → match_ordering o true (fault_before ps k qs l) false ≡ true
        → match_ordering u true (fault_before qs l rs m) false ≡ true
        → (fault_before ps k qs l ≡ true → fault_before qs l rs m ≡ true → fault_before ps k rs m ≡ true)
        → match_ordering (order_of_steps p r) true (fault_before ps k rs m) false ≡ true
    by Less Less a b h i rest = rw (step_through p q r a b) refl
    by Less Equal a b h i rest = rw (step_right p q r a b) refl
    by Less Greater a b h i rest = absurd (cc)
    by Equal Less a b h i rest = let same : order_of_steps p r ≡ Less = step_level p q r a ∙ b in rw same refl
    by Equal Equal a b h i rest = let same : order_of_steps p r ≡ Equal = step_level p q r a ∙ b in rw same (rest h i)
    by Equal Greater a b h i rest = absurd (cc)
    by Greater u a b h i rest = absurd (cc)

-- no fault comes before one that comes before it
pub no_earlier : NoneComesBeforeAnEarlier
no_earlier f g h i = first_once f.path f.kind g.path g.kind h i

-- a fault that comes before another comes before all that come after that one
pub later : EarlierComesBeforeLater
later f g x h i = first_through f.path f.kind g.path g.kind x.path x.kind h i
