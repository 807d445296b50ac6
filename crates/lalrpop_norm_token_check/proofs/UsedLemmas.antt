-- Where no literal is lacking, each literal in use is what the matches of some entry become; for the law of it.
use Rattle.std.proofs.Common.{◌≡◌, ◌∙◌, ◌⊎◌, ℕ, ◌+◌, ap, sym, subst, refl, inl, inr, Bool, true, false, cond}
use Rattle.std.proofs.Common.{List, [], ◌∷◌, ◌++◌, length, map}
use Rattle.std.specs.Prelude.{◌&&◌, ◌||◌, not, Option, Some, None, filter, filter_map, find, flat_map}
use Rattle.std.specs.List.{cons_option, list_any}
use Rattle.lalrpop_grammar_symbols.specs.Symbols.{TextSpan, Terminal}
use Rattle.lalrpop_grammar.specs.WrittenGrammar.{EntryMapping, Grammar, InternEntry, WrittenEntry}
use Rattle.lalrpop_grammar_language.specs.Among.{Among}
use Rattle.lalrpop_lexer_scan.specs.Literals.{LiteralUse, first_span, same_terminal, uses_in_grammar}
use Rattle.lalrpop_norm_token_check.specs.Blocks.{block_groups, entries_in_groups, first_lacking, has_terminal, is_catch_all, is_caught}
use Rattle.lalrpop_norm_token_check.specs.Blocks.{is_given, is_lacking, lists_literal, literal_given, literal_in_terminal, literal_turned}
use Rattle.lalrpop_norm_token_check.specs.Entries.{entries_for, entries_of_groups, entry, own_entry, tokenizer_entries, not_listed}
use Rattle.lalrpop_norm_token_check.specs.Entries.{AreFullEntries}
use Rattle.lalrpop_norm_token_check.proofs.UniqueLemmas.{none_is_some, same_is, some_is}
use Rattle.lalrpop_norm_prevalidate.proofs.SetLemmas.{false_is_true}
use Rattle.lalrpop_grammar_language.proofs.StepLemmas.{among_left, among_right}

true_is_false : true ≡ false → ⊥
true_is_false h = cc

either_true : (a b : Bool) → (a || b) ≡ true → (a ≡ true) ⊎ (b ≡ true)
either_true true b h = inl refl
either_true false b h = inr h

not_or_false : (a b : Bool) → (not a || b) ≡ false → a ≡ true
not_or_false true b h = refl
not_or_false false b h = absurd (true_is_false h)

pub both_true : (a b : Bool) → (a && b) ≡ true → (a ≡ true) × (b ≡ true)
both_true true b h = (refl, h)
both_true false b h = absurd (false_is_true h)

among_either : {A : Type 0} (xs ys : List A) (x : A) → Among (xs ++ ys) x → Among xs x ⊎ Among ys x
among_either [] ys x m = inr m
among_either (y ∷ xs) ys x (inl e) = inl (inl e)
among_either {A} (y ∷ xs) ys x (inr m) = later (among_either xs ys x m)
  where
    later : Among xs x ⊎ Among ys x → Among (y ∷ xs) x ⊎ Among ys x
    later (inl k) = inl (inr k)
    later (inr k) = inr k

among_map : {A B : Type 0} (f : A → B) (xs : List A) (x : A) → Among xs x → Among (map f xs) (f x)
among_map f [] x m = absurd m
among_map f (y ∷ xs) x (inl e) = inl (ap f e)
among_map f (y ∷ xs) x (inr m) = inr (among_map f xs x m)

among_flat : {A B : Type 0} (f : A → List B) (xs : List A) (x : A) (y : B) → Among xs x → Among (f x) y → Among (flat_map f xs) y
among_flat f [] x y m k = absurd m
among_flat f (z ∷ xs) x y (inl e) k = among_left (f z) (flat_map f xs) y (subst (λ a. Among (f a) y) (sym e) k)
among_flat f (z ∷ xs) x y (inr m) k = among_right (f z) (flat_map f xs) y (among_flat f xs x y m k)

among_filter : {A : Type 0} (p : A → Bool) (xs : List A) (x : A) → Among xs x → p x ≡ true → Among (filter p xs) x
among_filter p [] x m h = absurd m
among_filter {A} p (y ∷ xs) x m h = at (λ k. among_filter p xs x k h) (p y) refl m
  where
    at : (Among xs x → Among (filter p xs) x) → (b : Bool) → p y ≡ b → (y ≡ x) ⊎ Among xs x
        → Among (cond b (y ∷ filter p xs) (filter p xs)) x
    at later true q (inl e) = inl e
    at later true q (inr k) = inr (later k)
    at later false q (inl e) = absurd (false_is_true (sym q ∙ ap p e ∙ h))
    at later false q (inr k) = later k

-- where a search finds nothing, no element passes
passes_none : {A : Type 0} (p : A → Bool) (xs : List A) (x : A) → find p xs ≡ None → Among xs x → p x ≡ false
passes_none p [] x h m = absurd m
passes_none {A} p (y ∷ xs) x h m = at (passes_none p xs x) (p y) refl h m
  where
    at : (find p xs ≡ None → Among xs x → p x ≡ false) → (b : Bool) → p y ≡ b → cond b (Some y) (find p xs) ≡ None
        → (y ≡ x) ⊎ Among xs x → p x ≡ false
    at later true q k n = absurd (none_is_some y (sym k))
    at later false q k (inl e) = ap p (sym e) ∙ q
    at later false q k (inr n) = later k n

-- a literal that has a place is one of the list
found_used : (us : List LiteralUse) (l : Terminal) (p : TextSpan) → first_span us l ≡ Some p
    → Among (map (λ (u : LiteralUse). u.literal) us) l
found_used [] l p h = absurd (none_is_some p h)
found_used (u ∷ us) l p h = at (found_used us l p) (same_terminal l u.literal) refl h
  where
    at : (first_span us l ≡ Some p → Among (map (λ (v : LiteralUse). v.literal) us) l) → (b : Bool)
        → same_terminal l u.literal ≡ b
        → cond b (Some u.span) (first_span us l) ≡ Some p → (u.literal ≡ l) ⊎ Among (map (λ (v : LiteralUse). v.literal) us) l
    at later true q k = inl (sym (same_is l u.literal q))
    at later false q k = inr (later k)

-- an entry that gives the literal
abbrev Gives : Terminal → List WrittenEntry → Type 0
Gives l es = (w : WrittenEntry) × (Among es w × (literal_given w ≡ Some l))

given_by : (es : List WrittenEntry) (l : Terminal) → has_terminal (filter_map literal_given es) l ≡ true → Gives l es
given_by [] l h = absurd (false_is_true h)
given_by (w ∷ es) l h = at (λ k. later (given_by es l k)) (literal_given w) refl h
  where
    later : Gives l es → Gives l (w ∷ es)
    later found = (found.0, (inr found.1.0, found.1.1))

    first_or : (has_terminal (filter_map literal_given es) l ≡ true → Gives l (w ∷ es)) → (t : Terminal)
        → literal_given w ≡ Some t
        → (same_terminal t l ≡ true) ⊎ (has_terminal (filter_map literal_given es) l ≡ true) → Gives l (w ∷ es)
    first_or others t q (inl e) = (w, (inl refl, q ∙ ap Some (same_is t l e)))
    first_or others t q (inr e) = others e

    at : (has_terminal (filter_map literal_given es) l ≡ true → Gives l (w ∷ es)) → (o : Option Terminal) → literal_given w ≡ o
        → has_terminal (cons_option o (filter_map literal_given es)) l ≡ true → Gives l (w ∷ es)
    at others None q k = others k
    at others (Some t) q k = first_or others t q (either_true (same_terminal t l) (has_terminal (filter_map literal_given es) l) k)

-- `_` is one of the entries
abbrev HasRest : List WrittenEntry → Type 0
HasRest es = (w : WrittenEntry) × (Among es w × (is_catch_all w ≡ true))

rest_among : (es : List WrittenEntry) → list_any is_catch_all es ≡ true → HasRest es
rest_among [] h = absurd (false_is_true h)
rest_among (w ∷ es) h = at (λ k. later (rest_among es k)) (either_true (is_catch_all w) (list_any is_catch_all es) h)
  where
    later : HasRest es → HasRest (w ∷ es)
    later found = (found.0, (inr found.1.0, found.1.1))

    at : (list_any is_catch_all es ≡ true → HasRest (w ∷ es)) → (is_catch_all w ≡ true) ⊎ (list_any is_catch_all es ≡ true)
        → HasRest (w ∷ es)
    at others (inl e) = (w, (inl refl, e))
    at others (inr e) = others e

-- one of the entries whose matches become the literal
abbrev pub HasEntry : List InternEntry → Terminal → Type 0
HasEntry es l = (e : InternEntry) × (Among es e × (e.mapping ≡ EntryMapping.terminal l))

of_given : (l : Terminal) (others : List Terminal) (w : WrittenEntry) → literal_given w ≡ Some l → (n : ℕ)
    → HasEntry (entries_for n others w) l
of_given l others (WrittenEntry.catch_all p) h n = absurd (none_is_some l h)
of_given l others (WrittenEntry.unmapped t p) h n = (own_entry n t, (inl refl, ap EntryMapping.terminal (some_is t l h)))
of_given l others (WrittenEntry.skip t p) h n = absurd (none_is_some l h)
of_given l others (WrittenEntry.mapped t u p) h n = (entry n t (EntryMapping.terminal u), (inl refl, ap EntryMapping.terminal (is u h)))
  where
    is : (u : Terminal) → literal_in_terminal u ≡ Some l → u ≡ l
    is (Terminal.quoted s) k = some_is (Terminal.quoted s) l k
    is (Terminal.regex s) k = some_is (Terminal.regex s) l k
    is (Terminal.bare s) k = absurd (none_is_some l k)
    is Terminal.error k = absurd (none_is_some l k)

of_rest : (l : Terminal) (others : List Terminal) (w : WrittenEntry) → Among others l → is_catch_all w ≡ true → (n : ℕ)
    → HasEntry (entries_for n others w) l
of_rest l others (WrittenEntry.catch_all p) m h n = (own_entry n l, (among_map (own_entry n) others l m, refl))
of_rest l others (WrittenEntry.unmapped t p) m h n = absurd (false_is_true h)
of_rest l others (WrittenEntry.skip t p) m h n = absurd (false_is_true h)
of_rest l others (WrittenEntry.mapped t u p) m h n = absurd (false_is_true h)

-- what an entry of some group stands for is one of the entries of the groups
of_groups : (l : Terminal) (others : List Terminal) (groups : List (List WrittenEntry)) (w : WrittenEntry)
    → Among (entries_in_groups groups) w → ((n : ℕ) → HasEntry (entries_for n others w) l)
    → HasEntry (entries_of_groups others groups) l
of_groups l others [] w m h = absurd m
of_groups l others (g ∷ gs) w m h =
    at (λ k. later (of_groups l others gs w k h)) (among_either g (entries_in_groups gs) w m)
  where
    here : HasEntry (entries_for (length gs + 1) others w) l → Among g w → HasEntry (entries_of_groups others (g ∷ gs)) l
    here found k = (
      found.0,
      (
        among_left (flat_map (entries_for (length gs + 1) others) g) (entries_of_groups others gs) found.0
            (among_flat (entries_for (length gs + 1) others) g w found.0 k found.1.0),
        found.1.1,
      ),
    )

    later : HasEntry (entries_of_groups others gs) l → HasEntry (entries_of_groups others (g ∷ gs)) l
    later found = (
      found.0,
      (
        among_right (flat_map (entries_for (length gs + 1) others) g) (entries_of_groups others gs) found.0
            found.1.0,
        found.1.1,
      ),
    )

    at : (Among (entries_in_groups gs) w → HasEntry (entries_of_groups others (g ∷ gs)) l)
        → Among g w ⊎ Among (entries_in_groups gs) w → HasEntry (entries_of_groups others (g ∷ gs)) l
    at behind (inl k) = here (h (length gs + 1)) k
    at behind (inr k) = behind k

of_block : (l : Terminal) (groups : List (List WrittenEntry)) (used : List Terminal) → Among used l
    → is_given (entries_in_groups groups) l ≡ true → HasEntry (tokenizer_entries (Some groups) used) l
of_block l groups used m h =
    at (either_true (has_terminal (filter_map literal_given (entries_in_groups groups)) l)
    (is_caught (entries_in_groups groups) l) h)
  where
    at : (has_terminal (filter_map literal_given (entries_in_groups groups)) l ≡ true)
        ⊎ (is_caught (entries_in_groups groups) l ≡ true)
        → HasEntry (entries_of_groups (not_listed (entries_in_groups groups) used) groups) l
    at (inl k) =
        let found = given_by (entries_in_groups groups) l k in
        of_groups l (not_listed (entries_in_groups groups) used) groups found.0 found.1.0
        (of_given l (not_listed (entries_in_groups groups) used) found.0 found.1.1)
    at (inr k) =
        let parts = both_true (list_any is_catch_all (entries_in_groups groups)) (not (lists_literal (entries_in_groups groups) l)) k in
        let found = rest_among (entries_in_groups groups) parts.0 in
        let other : Among (not_listed (entries_in_groups groups) used) l =
        among_filter (λ t. not (lists_literal (entries_in_groups groups) t)) used l m parts.1 in
        of_groups l (not_listed (entries_in_groups groups) used) groups found.0 found.1.0
        (of_rest l (not_listed (entries_in_groups groups) used) found.0 other found.1.1)

of_used : (l : Terminal) (block : Option (List (List WrittenEntry))) (used : List Terminal) → Among used l
    → first_lacking block used ≡ None → HasEntry (tokenizer_entries block used) l
of_used l None used m h = (own_entry 1 l, (among_map (own_entry 1) used l m, refl))
of_used l (Some groups) used m h =
    of_block l groups used m
    (not_or_false (is_given (entries_in_groups groups) l) (has_terminal (filter_map literal_turned (entries_in_groups groups)) l)
    (passes_none (is_lacking (entries_in_groups groups)) used l h m))

-- a literal in use has an entry, where none is lacking
pub has_entry : (g : Grammar) (es : List InternEntry) (l : Terminal) (p : TextSpan) → AreFullEntries g es
    → first_span (uses_in_grammar g) l ≡ Some p → HasEntry es l
has_entry g es l p full h =
    let are = full.listed.are_used in
    let m : Among full.listed.used l =
    subst (λ us. Among us l) are.literals (found_used are.uses l p (are.each_once.each l ∙ h)) in
    subst (λ xs. HasEntry xs l) (sym full.listed.entries_are) (of_used l (block_groups g.items) full.listed.used m full.none_lacks)
