-- A grammar has one list of literals in use, and so one list of entries; for the law of entries, and for faults that don't stand.
use Rattle.std.proofs.Common.{◌≡◌, ◌∙◌, ap, ap₂, sym, subst, refl, Bool, true, false, cond, List, [], ◌∷◌, map}
use Rattle.std.specs.Prelude.{Some, None}
use Rattle.std.specs.List.{AllByRecursion}
use Rattle.std.specs.Ordering.{nat_cmp, ordering_reverse}
use Rattle.std.specs.Cmp.Lexicographic.{slice_cmp}
use Rattle.std.specs.declared.cmp.Ordering.TheVariants.{Less, Equal, Greater}
use Rattle.std.proofs.lemmas.Cmp.{nat_list_cmp_total, tied_itself}
use Rattle.std.proofs.lemmas.Slice.Eq.{bytes_eq-Decides}
use Rattle.lalrpop_grammar_symbols.specs.Symbols.{Text, TextSpan, Terminal}
use Rattle.lalrpop_grammar.specs.WrittenGrammar.{InternEntry, Grammar}
use Rattle.lalrpop_lexer_scan.specs.Literals.{LiteralUse, same_terminal, first_span, IsBefore, IsAscending, use_at}
use Rattle.lalrpop_norm_token_check.specs.Blocks.{block_groups}
use Rattle.lalrpop_norm_token_check.specs.Entries.{AreUsed, AreEntries, tokenizer_entries}
use Rattle.lalrpop_norm_prevalidate.proofs.SetLemmas.{false_is_true}

-- the same terminals are equal
same_itself : (t : Terminal) → same_terminal t t ≡ true
same_itself (Terminal.quoted s) = (bytes_eq-Decides s s).1 refl
same_itself (Terminal.regex s) = (bytes_eq-Decides s s).1 refl
same_itself (Terminal.bare s) = (bytes_eq-Decides s s).1 refl
same_itself Terminal.error = refl

-- two terminals that the test finds the same are equal
pub same_is : (s t : Terminal) → same_terminal s t ≡ true → s ≡ t
same_is (Terminal.quoted s) (Terminal.quoted t) h = ap Terminal.quoted ((bytes_eq-Decides s t).0 h)
same_is (Terminal.regex s) (Terminal.regex t) h = ap Terminal.regex ((bytes_eq-Decides s t).0 h)
same_is (Terminal.bare s) (Terminal.bare t) h = ap Terminal.bare ((bytes_eq-Decides s t).0 h)
same_is Terminal.error Terminal.error h = refl
same_is _ _ h = cc

-- none is before itself, and no two are each before the other
pub less_is_equal : Less ≡ Equal → ⊥
less_is_equal h = cc

pub less_is_greater : Less ≡ Greater → ⊥
less_is_greater h = cc

pub text_itself : (s : Text) → slice_cmp nat_cmp s s ≡ Less → ⊥
text_itself s h = less_is_equal (sym h ∙ tied_itself nat_list_cmp_total s)

pub text_back : (s t : Text) → slice_cmp nat_cmp s t ≡ Less → slice_cmp nat_cmp t s ≡ Less → ⊥
text_back s t h k = less_is_greater (sym h ∙ nat_list_cmp_total.antisymm s t ∙ ap ordering_reverse k)

pub before_itself : (t : Terminal) → IsBefore t t → ⊥
before_itself (Terminal.quoted s) h = text_itself s h
before_itself (Terminal.regex s) h = text_itself s h
before_itself (Terminal.bare s) h = h
before_itself Terminal.error h = h

pub before_back : (s t : Terminal) → IsBefore s t → IsBefore t s → ⊥
before_back (Terminal.quoted s) (Terminal.quoted t) h k = text_back s t h k
before_back (Terminal.quoted s) (Terminal.regex t) h k = k
before_back (Terminal.regex s) (Terminal.regex t) h k = text_back s t h k
before_back _ _ h k = h

-- two values are equal where the options that hold them are
pub some_is : {A : Type 0} (x y : A) → Some x ≡ Some y → x ≡ y
some_is x y h = cc

-- an option without a value is never one with a value
pub none_is_some : {A : Type 0} (x : A) → None ≡ Some x → ⊥
none_is_some x h = cc

-- what is before all of the list isn't in it
first_none : (t : Terminal) (us : List LiteralUse) → AllByRecursion (λ (v : LiteralUse). IsBefore t v.literal) us
    → first_span us t ≡ None
first_none t [] h = refl
first_none t (u ∷ us) h = at (first_none t us h.1) (same_terminal t u.literal) refl
  where
    at : first_span us t ≡ None → (b : Bool) → same_terminal t u.literal ≡ b → cond b (Some u.span) (first_span us t) ≡ None
    at later true e = absurd (before_itself t (subst (λ x. IsBefore t x) (sym (same_is t u.literal e)) h.0))
    at later false e = later

-- what is in the list is behind what is before all of it
found_behind : (s t : Terminal) (us : List LiteralUse) (p : TextSpan)
    → AllByRecursion (λ (v : LiteralUse). IsBefore s v.literal) us → first_span us t ≡ Some p → IsBefore s t
found_behind s t [] p h e = absurd (none_is_some p e)
found_behind s t (u ∷ us) p h e = at (found_behind s t us p h.1) (same_terminal t u.literal) refl e
  where
    at : (first_span us t ≡ Some p → IsBefore s t) → (b : Bool) → same_terminal t u.literal ≡ b
        → cond b (Some u.span) (first_span us t) ≡ Some p → IsBefore s t
    at later true q k = subst (λ x. IsBefore s x) (sym (same_is t u.literal q)) h.0
    at later false q k = later k

found_first : (u : LiteralUse) (us : List LiteralUse) → first_span (u ∷ us) u.literal ≡ Some u.span
found_first u us = ap (λ b. cond b (Some u.span) (first_span us u.literal)) (same_itself u.literal)

not_first : (u : LiteralUse) (us : List LiteralUse) (t : Terminal) → same_terminal t u.literal ≡ false
    → first_span (u ∷ us) t ≡ first_span us t
not_first u us t h = ap (λ b. cond b (Some u.span) (first_span us t)) h

is_first : (u : LiteralUse) (us : List LiteralUse) (t : Terminal) → same_terminal t u.literal ≡ true
    → first_span (u ∷ us) t ≡ Some u.span
is_first u us t h = ap (λ b. cond b (Some u.span) (first_span us t)) h

-- two lists that find the same have the same first literal
first_same : (u v : LiteralUse) (us vs : List LiteralUse) → IsAscending (u ∷ us) → IsAscending (v ∷ vs)
    → ((t : Terminal) → first_span (u ∷ us) t ≡ first_span (v ∷ vs) t) → u ≡ v
first_same u v us vs a b e = at (same_terminal u.literal v.literal) refl
  where
    back : (c : Bool) → same_terminal v.literal u.literal ≡ c → same_terminal u.literal v.literal ≡ false → ⊥
    back true q h = false_is_true (sym h ∙ ap (λ x. same_terminal u.literal x) (same_is v.literal u.literal q) ∙ same_itself u.literal)
    back false q h = before_back u.literal v.literal
        (found_behind u.literal v.literal us v.span a.0 (sym (not_first u us v.literal q) ∙ e v.literal ∙ found_first v vs))
        (found_behind v.literal u.literal vs u.span b.0 (sym (not_first v vs u.literal h) ∙ sym (e u.literal) ∙ found_first u us))

    at : (c : Bool) → same_terminal u.literal v.literal ≡ c → u ≡ v
    at true q = ap₂ use_at (same_is u.literal v.literal q)
        (some_is u.span v.span (sym (found_first u us) ∙ e u.literal ∙ is_first v vs u.literal q))
    at false q = absurd (back (same_terminal v.literal u.literal) refl q)

-- and the others find the same
rest_same : (u : LiteralUse) (us vs : List LiteralUse) → AllByRecursion (λ (w : LiteralUse). IsBefore u.literal w.literal) us
    → AllByRecursion (λ (w : LiteralUse). IsBefore u.literal w.literal) vs
    → ((t : Terminal) → first_span (u ∷ us) t ≡ first_span (u ∷ vs) t) → (t : Terminal) → first_span us t ≡ first_span vs t
rest_same u us vs a b e t = at (same_terminal t u.literal) refl
  where
    absent : (ws : List LiteralUse) → AllByRecursion (λ (w : LiteralUse). IsBefore u.literal w.literal) ws
        → same_terminal t u.literal ≡ true → first_span ws t ≡ None
    absent ws h q = ap (first_span ws) (same_is t u.literal q) ∙ first_none u.literal ws h

    at : (c : Bool) → same_terminal t u.literal ≡ c → first_span us t ≡ first_span vs t
    at true q = absent us a q ∙ sym (absent vs b q)
    at false q = sym (not_first u us t q) ∙ e t ∙ not_first u vs t q

-- ascending lists that find the same are equal
lists_same : (us vs : List LiteralUse) → IsAscending us → IsAscending vs → ((t : Terminal) → first_span us t ≡ first_span vs t)
    → us ≡ vs
lists_same [] [] a b e = refl
lists_same [] (v ∷ vs) a b e = absurd (none_is_some v.span (e v.literal ∙ found_first v vs))
lists_same (u ∷ us) [] a b e = absurd (none_is_some u.span (sym (e u.literal) ∙ found_first u us))
lists_same (u ∷ us) (v ∷ vs) a b e =
    let same : u ≡ v = first_same u v us vs a b e in
    let behind : AllByRecursion (λ (w : LiteralUse). IsBefore u.literal w.literal) vs =
    subst (λ (x : LiteralUse). AllByRecursion (λ (w : LiteralUse). IsBefore x.literal w.literal) vs) (sym same) b.0 in
    let finds : (t : Terminal) → first_span (u ∷ us) t ≡ first_span (u ∷ vs) t =
    subst (λ (x : LiteralUse). (t : Terminal) → first_span (u ∷ us) t ≡ first_span (x ∷ vs) t) (sym same) e in
    ap₂ ◌∷◌ same (lists_same us vs a.1 b.1 (rest_same u us vs a.0 behind finds))

-- a grammar's literals in use are one list
pub used_unique : (g : Grammar) (us vs : List Terminal) → AreUsed g us → AreUsed g vs → us ≡ vs
used_unique g us vs h k =
    sym h.literals
    ∙ ap (map (λ (u : LiteralUse). u.literal)) (lists_same h.uses k.uses h.each_once.ascending k.each_once.ascending
    (λ t. h.each_once.each t ∙ sym (k.each_once.each t)))
    ∙ k.literals

-- and so are its entries
pub entries_unique : (g : Grammar) (es fs : List InternEntry) → AreEntries g es → AreEntries g fs → es ≡ fs
entries_unique g es fs h k =
    h.entries_are ∙ ap (tokenizer_entries (block_groups g.items)) (used_unique g h.used k.used h.are_used k.are_used)
    ∙ sym k.entries_are
