-- What a name's use says of the rules that have the name; for resolving.
use Rattle.std.specs.Str.{bytes_eq}
use Rattle.std.proofs.Common.{◌≡◌, List, [], ◌∷◌, refl, ap, sym, ◌∙◌, cond, Bool, true, false, inl, inr, ◌⊎◌}
use Rattle.std.specs.Prelude.{None, map, filter, not, zip, ◌||◌}
use Rattle.std.proofs.lemmas.Bool.{or_parts, true≢false}
use Rattle.lalrpop_grammar_symbols.specs.Symbols.{Text, Closed}
use Rattle.lalrpop_grammar.specs.WrittenGrammar.{Rule}
use Rattle.lalrpop_grammar_language.specs.Among.{Among}
use Rattle.lalrpop_grammar_language.specs.Enabled.{EnabledRule, has_text, has_name}
use Rattle.lalrpop_grammar_language.specs.Closing.{Binding, parameter_value, only_value}
use Rattle.lalrpop_grammar_language.proofs.PlaceLemmas.{same_text-eq, among_map}
use Rattle.lalrpop_grammar_language.proofs.ComparisonLemmas.{same_text-refl}
use Rattle.lalrpop_norm_theory.specs.Between.{rule_between}
use Rattle.lalrpop_norm_theory.specs.Resolving.{DefinedNames, has_any_name, has_parameters, NameUse, use_of_name}

-- texts

-- the test of equality has no order
pub text_test-sym : (m n : Text) → bytes_eq m n ≡ bytes_eq n m
text_test-sym m n = go (bytes_eq m n) refl (bytes_eq n m) refl
  where
    go : (a : Bool) → bytes_eq m n ≡ a → (b : Bool) → bytes_eq n m ≡ b → a ≡ b
    go true e true f = refl
    go false e false f = refl
    go true e false f =
        sym (sym f ∙ ap (λ t. bytes_eq n t) (same_text-eq m n e) ∙ same_text-refl n)
    go false e true f =
        sym e ∙ ap (λ t. bytes_eq m t) (same_text-eq n m f) ∙ same_text-refl m

-- who has no name of the list isn't the name of one of it
pub not_among : {A : Type 0} (f : A → Text) (n : Text) (xs : List A) (x : A) → has_text n (map f xs) ≡ false → Among xs x →
    bytes_eq n (f x) ≡ false
not_among f n [] x e i = absurd i
not_among f n (y ∷ ys) x e (inl same) = ap (λ z. bytes_eq n (f z)) (sym same) ∙ (or_parts (bytes_eq n (f y)) (has_text n
    (map f ys)) e).0
not_among f n (y ∷ ys) x e (inr i) = not_among f n ys x (or_parts (bytes_eq n (f y)) (has_text n (map f ys)) e).1 i

-- a name of the list is that of one of it
pub is_among : {A : Type 0} (f : A → Text) (n : Text) (xs : List A) → has_text n (map f xs) ≡ true →
    (x : A) × Among xs x × (n ≡ f x)
is_among f n [] e = cc
is_among {A} f n (y ∷ ys) e = go (bytes_eq n (f y)) refl e (λ h. is_among f n ys h)
  where
    go : (b : Bool) → bytes_eq n (f y) ≡ b → (b || has_text n (map f ys)) ≡ true →
        (has_text n (map f ys) ≡ true → (x : A) × Among ys x × (n ≡ f x)) → (x : A) × Among (y ∷ ys) x × (n ≡ f x)
    go true same h later = (y, inl refl, same_text-eq n (f y) same)
    go false same h later = let w = later h in (w.0, inr w.1, w.2)

-- one of the list has its name among the names
pub among_names : {A : Type 0} (f : A → Text) (xs : List A) (x : A) → Among xs x → has_text (f x) (map f xs) ≡ true
among_names f [] x i = absurd i
among_names f (y ∷ ys) x (inl e) =
    ap (λ z. bytes_eq (f z) (f y) || has_text (f z) (map f ys)) (sym e)
    ∙ ap (λ (b : Bool). b || has_text (f y) (map f ys)) (same_text-refl (f y))
among_names f (y ∷ ys) x (inr i) = go (bytes_eq (f x) (f y)) (among_names f ys x i)
  where
    go : (b : Bool) → has_text (f x) (map f ys) ≡ true → (b || has_text (f x) (map f ys)) ≡ true
    go true h = refl
    go false h = h

-- a name that is no parameter has no value

none_bound : (ps : List Text) (xs : List Closed) (n : Text) → has_text n ps ≡ false →
    filter (λ (p : Text × Closed). bytes_eq n p.0) (zip ps xs) ≡ []
none_bound [] xs n e = refl
none_bound (p ∷ ps) [] n e = refl
none_bound (p ∷ ps) (x ∷ xs) n e =
    let w = or_parts (bytes_eq n p) (has_text n ps) e in go (bytes_eq n p) w.0 (none_bound ps xs n w.1)
  where
    others : Binding
    others = filter (λ (q : Text × Closed). bytes_eq n q.0) (zip ps xs)

    go : (b : Bool) → b ≡ false → others ≡ [] → cond b ((p, x) ∷ others) others ≡ []
    go true f h = absurd (true≢false f)
    go false f h = h

-- a name that is no parameter has no value, whatever values parameters have
pub no_value : (ps : List Text) (xs : List Closed) (n : Text) → has_text n ps ≡ false → parameter_value (zip ps xs) n ≡ None
no_value ps xs n e = ap (λ (b : Binding). only_value (map (λ (p : Text × Closed). p.1) b)) (none_bound ps xs n e)

-- uses

-- what the tests said where a name has this use
abbrev pub IsUse : DefinedNames → List Text → Text → NameUse → Type 0
IsUse d ps n NameUse.parameter = has_text n ps ≡ true
IsUse d ps n NameUse.plain_rule = (has_text n ps ≡ false) × (has_text n d.plain ≡ true)
IsUse d ps n NameUse.macro_rule = (has_text n ps ≡ false) × (has_text n d.plain ≡ false) × (has_text n d.macros ≡ true)
IsUse d ps n NameUse.mapped =
    (has_text n ps ≡ false) × (has_text n d.plain ≡ false) × (has_text n d.macros ≡ false) × (has_text n d.bares ≡ true)
IsUse d ps n NameUse.nothing =
    (has_text n ps ≡ false) × (has_text n d.plain ≡ false) × (has_text n d.macros ≡ false) × (has_text n d.bares ≡ false)

-- the use of a name is what the tests of it say
pub use_is : (d : DefinedNames) (ps : List Text) (n : Text) → IsUse d ps n (use_of_name d ps n)
use_is d ps n = by_parameters (has_text n ps) refl
  where
    by_bares : (b : Bool) → has_text n d.bares ≡ b → has_text n ps ≡ false → has_text n d.plain ≡ false →
        has_text n d.macros ≡ false → IsUse d ps n (cond b NameUse.mapped NameUse.nothing)
    by_bares true e p q m = (p, q, m, e)
    by_bares false e p q m = (p, q, m, e)

    by_macros : (b : Bool) → has_text n d.macros ≡ b → has_text n ps ≡ false → has_text n d.plain ≡ false →
        IsUse d ps n (cond b NameUse.macro_rule (cond (has_text n d.bares) NameUse.mapped NameUse.nothing))
    by_macros true e p q = (p, q, e)
    by_macros false e p q = by_bares (has_text n d.bares) refl p q e

    by_plain : (b : Bool) → has_text n d.plain ≡ b → has_text n ps ≡ false →
        IsUse d ps n (cond b NameUse.plain_rule
        (cond (has_text n d.macros) NameUse.macro_rule (cond (has_text n d.bares) NameUse.mapped NameUse.nothing)))
    by_plain true e p = (p, e)
    by_plain false e p = by_macros (has_text n d.macros) refl p e

    by_parameters : (b : Bool) → has_text n ps ≡ b →
        IsUse d ps n (cond b NameUse.parameter (cond (has_text n d.plain) NameUse.plain_rule
        (cond (has_text n d.macros) NameUse.macro_rule (cond (has_text n d.bares) NameUse.mapped NameUse.nothing))))
    by_parameters true e = e
    by_parameters false e = by_plain (has_text n d.plain) refl e

-- a parameter hides all else
pub use_of_parameter : (d : DefinedNames) (ps : List Text) (n : Text) → has_text n ps ≡ true →
    use_of_name d ps n ≡ NameUse.parameter
use_of_parameter d ps n e =
    ap (λ (b : Bool). cond b NameUse.parameter (cond (has_text n d.plain) NameUse.plain_rule
    (cond (has_text n d.macros) NameUse.macro_rule (cond (has_text n d.bares) NameUse.mapped NameUse.nothing)))) e

-- what is no parameter has the use that it has where there is none
pub use_without_parameters : (d : DefinedNames) (ps : List Text) (n : Text) → has_text n ps ≡ false →
    use_of_name d ps n ≡ use_of_name d [] n
use_without_parameters d ps n e =
    ap (λ (b : Bool). cond b NameUse.parameter (cond (has_text n d.plain) NameUse.plain_rule
    (cond (has_text n d.macros) NameUse.macro_rule (cond (has_text n d.bares) NameUse.mapped NameUse.nothing)))) e

-- rules by their names

-- a rule that the test tells to be no macro has no parameters
pub no_parameters : (r : Rule) → not (has_parameters r) ≡ true → r.parameters ≡ []
no_parameters r e = go r.parameters e
  where
    go : (ps : List Text) → not (has_any_name ps) ≡ true → ps ≡ []
    go [] h = refl
    go (p ∷ ps) h = cc

-- a rule that the test tells to be a macro has parameters
pub some_parameters : (r : Rule) → has_parameters r ≡ true → r.parameters ≡ [] → ⊥
some_parameters r e none = true≢false (sym e ∙ ap has_any_name none)

-- a rule is plain or a macro
either_name : (rs : List Rule) (n : Text) (r : Rule) → Among rs r →
    has_text n (map (λ q. q.name) (filter (λ q. not (has_parameters q)) rs)) ≡ false →
    has_text n (map (λ q. q.name) (filter has_parameters rs)) ≡ false → bytes_eq n r.name ≡ false
either_name [] n r i p m = absurd i
either_name (q ∷ qs) n r i p m = go (has_parameters q) p m i (λ j. either_name qs n r j)
  where
    plain : List Rule
    plain = filter (λ (t : Rule). not (has_parameters t)) qs

    macros : List Rule
    macros = filter has_parameters qs

    same : q ≡ r → bytes_eq n q.name ≡ false → bytes_eq n r.name ≡ false
    same e h = ap (λ (t : Rule). bytes_eq n t.name) (sym e) ∙ h

    go : (b : Bool) → has_text n (map (λ (t : Rule). t.name) (cond (not b) (q ∷ plain) plain)) ≡ false →
        has_text n (map (λ (t : Rule). t.name) (cond b (q ∷ macros) macros)) ≡ false → (q ≡ r) ⊎ Among qs r →
        (Among qs r → has_text n (map (λ (t : Rule). t.name) plain) ≡ false →
        has_text n (map (λ (t : Rule). t.name) macros) ≡ false →
        bytes_eq n r.name ≡ false) → bytes_eq n r.name ≡ false
    go true p m (inl e) later = same e (or_parts (bytes_eq n q.name) (has_text n (map (λ (t : Rule). t.name) macros)) m).0
    go true p m (inr j) later = later j p (or_parts (bytes_eq n q.name) (has_text n (map (λ (t : Rule). t.name) macros)) m).1
    go false p m (inl e) later = same e (or_parts (bytes_eq n q.name) (has_text n (map (λ (t : Rule). t.name) plain)) p).0
    go false p m (inr j) later = later j (or_parts (bytes_eq n q.name) (has_text n (map (λ (t : Rule). t.name) plain)) p).1 m

-- where no rule has the name the search for its rules gives none
pub none_of_name : (n : Text) (rs : List EnabledRule) → ((r : EnabledRule) → Among rs r → has_name n r ≡ false) →
    filter (has_name n) rs ≡ []
none_of_name n [] h = refl
none_of_name n (r ∷ rs) h = go (has_name n r) (h r (inl refl)) (none_of_name n rs (λ q i. h q (inr i)))
  where
    go : (b : Bool) → b ≡ false → filter (has_name n) rs ≡ [] →
        cond b (r ∷ filter (has_name n) rs) (filter (has_name n) rs) ≡ []
    go true e k = absurd (true≢false e)
    go false e k = k

-- a name that is neither a plain rule's nor a macro's is no rule's
pub no_rule_named : (rs : List Rule) (n : Text) → has_text n (map (λ r. r.name) (filter (λ r. not (has_parameters r)) rs)) ≡ false →
    has_text n (map (λ r. r.name) (filter has_parameters rs)) ≡ false → filter (has_name n) (map rule_between rs) ≡ []
no_rule_named rs n p m =
    none_of_name n (map rule_between rs) (λ r i.
    let w = among_map rule_between rs r i in
    ap (λ (q : EnabledRule). bytes_eq q.name n) (sym w.2) ∙ text_test-sym (w.0).name n ∙ either_name rs n w.0 w.1 p m)
