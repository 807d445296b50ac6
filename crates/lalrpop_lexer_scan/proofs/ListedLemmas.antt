-- The literals in two maps, quoted ones and regexes, as one list. For the listing of a grammar's literals.
use Rattle.std.proofs.Common.{◌≡◌, true, false, cond, List, [], ◌∷◌, ◌++◌, Option, Some, None, map, refl, sym, ap, subst}
use Rattle.std.proofs.Common.{◌∙◌, option_map}
use Rattle.std.specs.List.{AllByRecursion}
use Rattle.std.specs.List.Sorted.{IsStrictlySortedBy}
use Rattle.std.specs.Map.{keys_of, lookup}
use Rattle.std.specs.Option.{option_or}
use Rattle.std.specs.Ordering.{nat_cmp, is_eq}
use Rattle.std.specs.Cmp.Lexicographic.{slice_cmp}
use Rattle.std.specs.BTreeMap.{BTreeMap, IsOrdered, is_at}
use Rattle.std.proofs.lemmas.Map.Text.{is_eq-slice_cmp}
use Rattle.std.specs.declared.cmp.Ordering.TheVariants.{Less}
use Rattle.lalrpop_grammar_symbols.specs.declared.span.Span.{Span}
use Rattle.lalrpop_grammar_symbols.specs.Symbols.{Text, TextSpan, Terminal}
use Rattle.lalrpop_grammar_symbols.specs.Views.{span_view}
use Rattle.lalrpop_lexer_scan.specs.Literals.{LiteralUse, first_span, IsBefore, IsAscending}
use Rattle.lalrpop_lexer_scan.specs.Noting.{noted_span_of, quoted_use, regex_use}
use Rattle.lalrpop_lexer_scan.proofs.NotingLemmas.{first_place-append}

abbrev Entries : Type 0
Entries = List (Text × Span)

-- in order
later_quoted : (x : Text) (es : Entries) → AllByRecursion (λ y. slice_cmp nat_cmp x y ≡ Less) (keys_of es)
    → AllByRecursion (λ (v : LiteralUse). IsBefore (Terminal.quoted x) v.literal) (map quoted_use es)
later_quoted x [] h = tt
later_quoted x (e ∷ es) h = (h.0, later_quoted x es h.1)

later_regex : (x : Text) (es : Entries) → AllByRecursion (λ y. slice_cmp nat_cmp x y ≡ Less) (keys_of es)
    → AllByRecursion (λ (v : LiteralUse). IsBefore (Terminal.regex x) v.literal) (map regex_use es)
later_regex x [] h = tt
later_regex x (e ∷ es) h = (h.0, later_regex x es h.1)

quoted_before : (x : Text) (es : Entries)
    → AllByRecursion (λ (v : LiteralUse). IsBefore (Terminal.quoted x) v.literal) (map regex_use es)
quoted_before x [] = tt
quoted_before x (e ∷ es) = (tt, quoted_before x es)

All-append : (P : LiteralUse → Type 0) (us vs : List LiteralUse) → AllByRecursion P us → AllByRecursion P vs
    → AllByRecursion P (us ++ vs)
All-append P [] vs h k = k
All-append P (u ∷ us) vs h k = (h.0, All-append P us vs h.1 k)

ascending_regexes : (es : Entries) → IsStrictlySortedBy (slice_cmp nat_cmp) (keys_of es) → IsAscending (map regex_use es)
unfolding IsStrictlySortedBy
ascending_regexes [] h = tt
ascending_regexes (e ∷ es) h = (later_regex e.0 es h.0, ascending_regexes es h.1)

ascending_both : (es fs : Entries) → IsStrictlySortedBy (slice_cmp nat_cmp) (keys_of es)
    → IsStrictlySortedBy (slice_cmp nat_cmp) (keys_of fs) → IsAscending (map quoted_use es ++ map regex_use fs)
unfolding IsStrictlySortedBy
ascending_both [] fs h k = ascending_regexes fs k
ascending_both (e ∷ es) fs h k =
    (All-append _ (map quoted_use es) (map regex_use fs) (later_quoted e.0 es h.0) (quoted_before e.0 fs), ascending_both es fs h.1 k)

-- at their places
found_quoted : (es : Entries) (t : Text)
    → first_span (map quoted_use es) (Terminal.quoted t) ≡ option_map span_view (lookup (is_at (slice_cmp nat_cmp t)) es)
found_quoted [] t = refl
found_quoted (e ∷ es) t = rw (← is_eq-slice_cmp t e.0)
    (elim (is_eq (slice_cmp nat_cmp t e.0)) as
    (λ b. cond b (Some (span_view e.1)) (first_span (map quoted_use es) (Terminal.quoted t))
    ≡ option_map span_view (cond b (Some e.1) (lookup (is_at (slice_cmp nat_cmp t)) es)))
    [ true ↦ refl | false ↦ found_quoted es t ])

found_regex : (es : Entries) (t : Text)
    → first_span (map regex_use es) (Terminal.regex t) ≡ option_map span_view (lookup (is_at (slice_cmp nat_cmp t)) es)
found_regex [] t = refl
found_regex (e ∷ es) t = rw (← is_eq-slice_cmp t e.0)
    (elim (is_eq (slice_cmp nat_cmp t e.0)) as
    (λ b. cond b (Some (span_view e.1)) (first_span (map regex_use es) (Terminal.regex t))
    ≡ option_map span_view (cond b (Some e.1) (lookup (is_at (slice_cmp nat_cmp t)) es)))
    [ true ↦ refl | false ↦ found_regex es t ])

no_regex : (es : Entries) (t : Text) → first_span (map quoted_use es) (Terminal.regex t) ≡ None
no_regex [] t = refl
no_regex (e ∷ es) t = no_regex es t

no_quoted : (es : Entries) (t : Text) → first_span (map regex_use es) (Terminal.quoted t) ≡ None
no_quoted [] t = refl
no_quoted (e ∷ es) t = no_quoted es t

no_bare : (es : Entries) (t : Text) → (first_span (map quoted_use es) (Terminal.bare t) ≡ None)
    × (first_span (map regex_use es) (Terminal.bare t) ≡ None)
no_bare [] t = (refl, refl)
no_bare (e ∷ es) t = no_bare es t

no_recovery : (es : Entries) → (first_span (map quoted_use es) Terminal.error ≡ None)
    × (first_span (map regex_use es) Terminal.error ≡ None)
no_recovery [] = (refl, refl)
no_recovery (e ∷ es) = no_recovery es

nothing_else : (o p : Option TextSpan) → p ≡ None → option_or o p ≡ o
nothing_else None p e = e
nothing_else (Some x) p e = refl

nothing_first : (o p : Option TextSpan) → o ≡ None → option_or o p ≡ p
nothing_first o p e = ap (λ (x : Option TextSpan). option_or x p) e

found : (m n : BTreeMap Text Span) (t : Terminal)
    → option_or (first_span (map quoted_use m.entries) t) (first_span (map regex_use n.entries) t)
    ≡ noted_span_of (record { quoted = m; regexes = n }) t
found m n (Terminal.quoted t) = nothing_else _ _ (no_quoted n.entries t) ∙ found_quoted m.entries t
found m n (Terminal.regex t) = nothing_first _ _ (no_regex m.entries t) ∙ found_regex n.entries t
found m n (Terminal.bare t) = nothing_first _ _ (no_bare m.entries t).0 ∙ (no_bare n.entries t).1
found m n Terminal.error = nothing_first _ _ (no_recovery m.entries).0 ∙ (no_recovery n.entries).1

-- both maps as one list
pub both_ascending : (m n : BTreeMap Text Span) (us : List LiteralUse) → us ≡ map quoted_use m.entries ++ map regex_use n.entries
    → IsOrdered (slice_cmp nat_cmp) m → IsOrdered (slice_cmp nat_cmp) n → IsAscending us
both_ascending m n us e h k = subst IsAscending (sym e) (ascending_both m.entries n.entries h k)

-- where a literal stands first in the one list is where the maps say
pub both_found : (m n : BTreeMap Text Span) (us : List LiteralUse) → us ≡ map quoted_use m.entries ++ map regex_use n.entries
    → (t : Terminal) → first_span us t ≡ noted_span_of (record { quoted = m; regexes = n }) t
both_found m n us e t =
    ap (λ (l : List LiteralUse). first_span l t) e ∙ first_place-append (map quoted_use m.entries) (map regex_use n.entries) t
    ∙ found m n t
