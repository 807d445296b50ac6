-- What the first of a list and the first reserved name say of the faults that stand; for the first pass.
use Rattle.std.proofs.Common.{◌≡◌, sym, ap, ◌∙◌, refl, List, [], ◌∷◌, inl, inr}
use Rattle.std.specs.Prelude.{Bool, true, false, Some, None, if◌then◌else◌}
use Rattle.lalrpop_grammar_symbols.specs.Symbols.{Text, TextSpan}
use Rattle.lalrpop_grammar_language.specs.Among.{Among}
use Rattle.lalrpop_norm_prevalidate.specs.Firsts.{first_of}
use Rattle.lalrpop_norm_prevalidate.specs.Names.{SpannedName, first_reserved, has_prefix}

some_injective : {A : Type 0} (x y : A) → Some x ≡ Some y → x ≡ y
some_injective x y h = cc

none_or_some : {A : Type 0} (x : A) → Some x ≡ None → ⊥
none_or_some x h = cc

false_or_true : false ≡ true → ⊥
false_or_true h = cc

-- the first of a list is one of it
pub first-Among : {A : Type 0} (xs : List A) (x : A) → first_of xs ≡ Some x → Among xs x
first-Among [] x h = absurd (none_or_some x (sym h))
first-Among (y ∷ ys) x h = inl (some_injective y x h)

-- without a first there is none
pub none-Among : {A : Type 0} (xs : List A) (x : A) → first_of xs ≡ None → Among xs x → ⊥
none-Among [] x h m = m
none-Among (y ∷ ys) x h m = none_or_some y h

-- one of the names begins with the prefix, and is told there
abbrev pub IsReservedAmong : Text → List SpannedName → TextSpan → Type 0
IsReservedAmong prefix names p = (n : SpannedName) × (Among names n × (has_prefix prefix n.0 ≡ true) × (n.1 ≡ p))

some-case : (prefix : Text) (n : SpannedName) (ns : List SpannedName) (p : TextSpan) (b : Bool) → has_prefix prefix n.0 ≡ b
    → (if b then Some n.1 else first_reserved prefix ns) ≡ Some p
    → (first_reserved prefix ns ≡ Some p → IsReservedAmong prefix ns p) → IsReservedAmong prefix (n ∷ ns) p
some-case prefix n ns p true e h later = (n, (inl refl, e, some_injective n.1 p h))
some-case prefix n ns p false e h later = let found = later h in (found.0, (inr found.1.0, found.1.1, found.1.2))

-- the first reserved name is one of the names, and begins with the prefix
pub first-reserved : (prefix : Text) (names : List SpannedName) (p : TextSpan) → first_reserved prefix names ≡ Some p
    → IsReservedAmong prefix names p
first-reserved prefix [] p h = absurd (none_or_some p (sym h))
first-reserved prefix (n ∷ ns) p h = some-case prefix n ns p (has_prefix prefix n.0) refl h (first-reserved prefix ns p)

none-case : (prefix : Text) (y : SpannedName) (ys : List SpannedName) (n : SpannedName) (b : Bool) → has_prefix prefix y.0 ≡ b
    → (if b then Some y.1 else first_reserved prefix ys) ≡ None → has_prefix prefix n.0 ≡ true
    → (first_reserved prefix ys ≡ None → Among ys n → ⊥) → Among (y ∷ ys) n → ⊥
none-case prefix y ys n true e h t later m = none_or_some y.1 h
none-case prefix y ys n false e h t later (inl q) = false_or_true (sym e ∙ ap (λ z. has_prefix prefix z.0) q ∙ t)
none-case prefix y ys n false e h t later (inr k) = later h k

-- without a first reserved name no name begins with the prefix
pub none-reserved : (prefix : Text) (names : List SpannedName) (n : SpannedName) → first_reserved prefix names ≡ None
    → has_prefix prefix n.0 ≡ true → Among names n → ⊥
none-reserved prefix [] n h t m = m
none-reserved prefix (y ∷ ys) n h t m =
    none-case prefix y ys n (has_prefix prefix y.0) refl h t (λ e k. none-reserved prefix ys n e t k) m
