-- Parameters and what they are bound to, before and after levels have rules of their own; for the law of what levels keep.
use Rattle.std.specs.Str.{bytes_eq}
use Rattle.std.proofs.Common.{◌≡◌, ℕ, ◌+◌, suc, List, [], ◌∷◌, refl, ap, sym, ◌∙◌, subst, cond, Bool, true, false}
use Rattle.std.proofs.Common.{inl, inr, length}
use Rattle.std.specs.Prelude.{Option, Some, None, map, filter, zip, option_map, is_some, ◌||◌}
use Rattle.std.specs.List.{list_any}
use Rattle.std.proofs.lemmas.Bool.{true≢false, or_parts}
use Rattle.lalrpop_grammar_symbols.specs.Symbols.{Text, TextSpan, Sym, syms, Closed, Closeds, closed_list}
use Rattle.lalrpop_grammar_language.specs.Among.{Among}
use Rattle.lalrpop_grammar_language.specs.Enabled.{has_text}
use Rattle.lalrpop_grammar_language.specs.Closing.{Scope, Binding, only_value, parameter_value, close_all, name_or, name_meaning}
use Rattle.lalrpop_grammar_language.specs.Closing.{plain_name}
use Rattle.lalrpop_grammar_language.specs.Closing.{occurrences}
use Rattle.lalrpop_grammar_language.proofs.ComparisonLemmas.{same_text-refl}
use Rattle.lalrpop_grammar_language.proofs.PlaceLemmas.{same_text-eq}
use Rattle.lalrpop_norm_theory.specs.Premises.{AreDifferent}
use Rattle.lalrpop_norm_theory.specs.LevelRules.{by_level_names, all_by_level_names}
use Rattle.lalrpop_norm_theory.specs.LeveledGrammar.{parameters_alone, names_alone}
use Rattle.lalrpop_grammar_language.proofs.AmongLemmas.{text_found}
use Rattle.lalrpop_norm_theory.proofs.RenameLemmas.{HideAlike}

-- lists of arguments

-- each argument is renamed
pub renamed_list : (f : Text → ℕ → Text) (xs : Closeds) →
    closed_list (all_by_level_names f xs) ≡ map (by_level_names f) (closed_list xs)
renamed_list f Closeds.none = refl
renamed_list f (Closeds.more x xs) = ap (λ l. by_level_names f x ∷ l) (renamed_list f xs)

-- and there are as many
pub renamed_length : (f : Text → ℕ → Text) (xs : Closeds) →
    length (closed_list (all_by_level_names f xs)) ≡ length (closed_list xs)
renamed_length f Closeds.none = refl
renamed_length f (Closeds.more x xs) = ap suc (renamed_length f xs)

-- which names are bound

abbrev is_pair_of : Text → Text × Closed → Bool
is_pair_of n p = bytes_eq n p.0

some_value : (n : Text) (pairs : Binding) → is_some (parameter_value pairs n) ≡ list_any (is_pair_of n) pairs
some_value n [] = refl
some_value n (p ∷ pairs) = go (is_pair_of n p) (some_value n pairs)
  where
    first_value : (c : Closed) (cs : List Closed) → is_some (only_value (c ∷ cs)) ≡ true
    first_value c [] = refl
    first_value c (d ∷ cs) = refl

    go : (b : Bool) → is_some (parameter_value pairs n) ≡ list_any (is_pair_of n) pairs →
        is_some (only_value (map (λ q. q.1) (cond b (p ∷ filter (is_pair_of n) pairs) (filter (is_pair_of n) pairs))))
        ≡ (b || list_any (is_pair_of n) pairs)
    go true ih = first_value p.1 (map (λ q. q.1) (filter (is_pair_of n) pairs))
    go false ih = ih

any_pair : (n : Text) (ps : List Text) (cs : List Closed) → length cs ≡ length ps →
    list_any (is_pair_of n) (zip ps cs) ≡ has_text n ps
any_pair n [] cs e = refl
any_pair n (p ∷ ps) [] e = cc
any_pair n (p ∷ ps) (c ∷ cs) e =
    let rest : length cs ≡ length ps = cc in ap (λ b. bytes_eq n p || b) (any_pair n ps cs rest)

any_alone : (n : Text) (ps : List Text) → list_any (is_pair_of n) (parameters_alone ps) ≡ has_text n ps
any_alone n [] = refl
any_alone n (p ∷ ps) = ap (λ b. bytes_eq n p || b) (any_alone n ps)

-- parameters are bound, where there are as many values, and nothing else is
pub bound_names : (ps : List Text) (cs : List Closed) → length cs ≡ length ps → (n : Text) →
    is_some (parameter_value (zip ps cs) n) ≡ has_text n ps
bound_names ps cs e n = some_value n (zip ps cs) ∙ any_pair n ps cs e

-- so they hide the same names, whatever they stand for
pub hide_alike : (ps : List Text) (cs : List Closed) → length cs ≡ length ps → HideAlike (zip ps cs) (parameters_alone ps)
hide_alike ps cs e n = some_value n (parameters_alone ps) ∙ any_alone n ps ∙ sym (bound_names ps cs e n)

-- where there are as many values as parameters each parameter has one
pub parameter_bound : (ps : List Text) (cs : List Closed) → length cs ≡ length ps → (n : Text) → has_text n ps ≡ true →
    (c : Closed) × (parameter_value (zip ps cs) n ≡ Some c)
parameter_bound ps cs e n h = go (parameter_value (zip ps cs) n) (bound_names ps cs e n ∙ h)
  where
    go : (o : Option Closed) → is_some o ≡ true → (c : Closed) × (o ≡ Some c)
    go None i = absurd (true≢false (sym i))
    go (Some c) i = (c, refl)

-- where there are as many values as parameters no other name has one
pub other_free : (ps : List Text) (cs : List Closed) → length cs ≡ length ps → (n : Text) → has_text n ps ≡ false →
    parameter_value (zip ps cs) n ≡ None
other_free ps cs e n h = go (parameter_value (zip ps cs) n) (bound_names ps cs e n ∙ h)
  where
    go : (o : Option Closed) → is_some o ≡ false → o ≡ None
    go None i = refl
    go (Some c) i = absurd (true≢false i)

-- renamed values

picked : (f : Text → ℕ → Text) (n : Text) (ps : List Text) (cs : List Closed) →
    map (λ p. p.1) (filter (is_pair_of n) (zip ps (map (by_level_names f) cs)))
    ≡ map (by_level_names f) (map (λ p. p.1) (filter (is_pair_of n) (zip ps cs)))
picked f n [] cs = refl
picked f n (p ∷ ps) [] = refl
picked f n (p ∷ ps) (c ∷ cs) = go (bytes_eq n p) (picked f n ps cs)
  where
    here : List (Text × Closed)
    here = filter (is_pair_of n) (zip ps (map (by_level_names f) cs))

    before : List (Text × Closed)
    before = filter (is_pair_of n) (zip ps cs)

    go : (b : Bool) → map (λ q. q.1) here ≡ map (by_level_names f) (map (λ q. q.1) before) →
        map (λ q. q.1) (cond b ((p, by_level_names f c) ∷ here) here)
        ≡ map (by_level_names f) (map (λ q. q.1) (cond b ((p, c) ∷ before) before))
    go true ih = ap (λ l. by_level_names f c ∷ l) ih
    go false ih = ih

renamed_only : (f : Text → ℕ → Text) (cs : List Closed) →
    only_value (map (by_level_names f) cs) ≡ option_map (by_level_names f) (only_value cs)
renamed_only f [] = refl
renamed_only f (c ∷ []) = refl
renamed_only f (c ∷ d ∷ cs) = refl

-- a parameter stands for the renamed value
pub renamed_value : (f : Text → ℕ → Text) (ps : List Text) (args : Closeds) (n : Text) →
    parameter_value (zip ps (closed_list (all_by_level_names f args))) n
    ≡ option_map (by_level_names f) (parameter_value (zip ps (closed_list args)) n)
renamed_value f ps args n =
    ap (λ l. parameter_value (zip ps l) n) (renamed_list f args)
    ∙ ap only_value (picked f n ps (closed_list args))
    ∙ renamed_only f (map (λ p. p.1) (filter (is_pair_of n) (zip ps (closed_list args))))

-- a macro's own parameters as arguments

none_paired : (n : Text) (ps : List Text) (cs : List Closed) → has_text n ps ≡ false → filter (is_pair_of n) (zip ps cs) ≡ []
none_paired n [] cs h = refl
none_paired n (p ∷ ps) [] h = refl
none_paired n (p ∷ ps) (c ∷ cs) h =
    let parts = or_parts (bytes_eq n p) (has_text n ps) h in
    ap (λ b. cond b ((p, c) ∷ filter (is_pair_of n) (zip ps cs)) (filter (is_pair_of n) (zip ps cs))) parts.0
    ∙ none_paired n ps cs parts.1

zip_first : (ps : List Text) (cs : List Closed) (p : Text × Closed) → Among (zip ps cs) p → Among ps p.0
zip_first [] cs p i = absurd i
zip_first (q ∷ ps) [] p i = absurd i
zip_first (q ∷ ps) (c ∷ cs) p (inl e) = inl (ap (λ z. z.0) e)
zip_first (q ∷ ps) (c ∷ cs) p (inr i) = inr (zip_first ps cs p i)

one_paired : (ps : List Text) (cs : List Closed) (p : Text × Closed) → AreDifferent ps → Among (zip ps cs) p →
    filter (is_pair_of p.0) (zip ps cs) ≡ p ∷ []
one_paired [] cs p d i = absurd i
one_paired (q ∷ ps) [] p d i = absurd i
one_paired (q ∷ ps) (c ∷ cs) p d (inl e) =
    let same : q ≡ p.0 = ap (λ z. z.0) e in
    let yes : bytes_eq p.0 q ≡ true = subst (λ t. bytes_eq p.0 t ≡ true) (sym same) (same_text-refl p.0) in
    let rest : filter (is_pair_of p.0) (zip ps cs) ≡ [] = none_paired p.0 ps cs (subst (λ t. has_text t ps ≡ false) same d.0) in
    ap (λ b. cond b ((q, c) ∷ filter (is_pair_of p.0) (zip ps cs)) (filter (is_pair_of p.0) (zip ps cs))) yes
    ∙ ap (λ l. (q, c) ∷ l) rest ∙ ap (λ z. z ∷ []) e
one_paired (q ∷ ps) (c ∷ cs) p d (inr i) = go (bytes_eq p.0 q) refl (one_paired ps cs p d.1 i)
  where
    go : (b : Bool) → bytes_eq p.0 q ≡ b → filter (is_pair_of p.0) (zip ps cs) ≡ p ∷ [] →
        cond b ((q, c) ∷ filter (is_pair_of p.0) (zip ps cs)) (filter (is_pair_of p.0) (zip ps cs)) ≡ p ∷ []
    go true e ih =
        let there : has_text q ps ≡ true =
        subst (λ t. has_text t ps ≡ true) (same_text-eq p.0 q e) (text_found p.0 ps (zip_first ps cs p i)) in
        absurd (true≢false (sym there ∙ d.0))
    go false e ih = ih

-- a parameter stands for its value, where no other has its name
pub value_of_parameter : (ps : List Text) (cs : List Closed) → AreDifferent ps → (p : Text × Closed) → Among (zip ps cs) p →
    parameter_value (zip ps cs) p.0 ≡ Some p.1
value_of_parameter ps cs d p i = ap (λ l. only_value (map (λ q. q.1) l)) (one_paired ps cs p d i)

-- parameters that are named in order close to the values in order
pub closed_names : (t : Scope) (span : TextSpan) (k : ℕ) (ps : List Text) (xs : Closeds) → length (closed_list xs) ≡ length ps →
    ((p : Text × Closed) → Among (zip ps (closed_list xs)) p → parameter_value t.binding p.0 ≡ Some p.1) →
    close_all t k (syms (names_alone span ps)) ≡ xs
closed_names t span k [] Closeds.none e h = refl
closed_names t span k [] (Closeds.more x xs) e h = cc
closed_names t span k (p ∷ ps) Closeds.none e h = cc
closed_names t span k (p ∷ ps) (Closeds.more x xs) e h =
    let rest : length (closed_list xs) ≡ length ps = cc in
    let after = k + occurrences t.binding t.owner (Sym.ambiguous_id span p) in
    ap (λ o. Closeds.more (name_or o (plain_name t k p (name_meaning t.grammar p))) (close_all t after (syms (names_alone span ps))))
    (h (p, x) (inl refl))
    ∙ ap (λ l. Closeds.more x l) (closed_names t span after ps xs rest (λ q i. h q (inr i)))
