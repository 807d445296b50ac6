-- Names of the leveled grammar's expansion are names of the written one's; for the law of names.
use Rattle.std.proofs.Common.{◌≡◌, ◌≢◌, ℕ, zero, suc, List, [], ◌∷◌, refl, ap, sym, ◌∙◌, subst, Bool, true, false}
use Rattle.std.proofs.Common.{length, inl, inr}
use Rattle.std.specs.Prelude.{Option, Some, None, map, if◌then◌else◌}
use Rattle.lalrpop_grammar_symbols.specs.Symbols.{Text, Closed, Closeds}
use Rattle.lalrpop_grammar.specs.WrittenGrammar.{Rule, Grammar, rules_of}
use Rattle.lalrpop_grammar_language.specs.Among.{Among}
use Rattle.lalrpop_grammar_language.specs.Enabled.{EnabledRule, IsRule, has_text}
use Rattle.lalrpop_grammar_language.specs.Levels.{loosest}
use Rattle.lalrpop_grammar_language.specs.Starts.{has_none}
use Rattle.lalrpop_grammar_language.specs.Expansion.{Nonterminal, InExpansion, HasLevel}
use Rattle.lalrpop_grammar_language.proofs.PlaceLemmas.{among_map}
use Rattle.lalrpop_norm_theory.specs.Between.{rule_between}
use Rattle.lalrpop_norm_theory.specs.Keys.{level_text, leveled_key_text, flat_key_text, with_number, IsNextNumber, IsNaming}
use Rattle.lalrpop_grammar_language.proofs.AmongLemmas.{flat_map_among}
use Rattle.lalrpop_grammar_language.proofs.AmongLemmas.{map_among}
use Rattle.lalrpop_grammar_language.proofs.AmongLemmas.{among_flat_map}
use Rattle.lalrpop_norm_theory.proofs.ExpansionListLemmas.{rule_there}
use Rattle.lalrpop_norm_theory.proofs.LevelLemmas.{no_loosest}
use Rattle.lalrpop_norm_theory.specs.Same.{SameExpansion}
use Rattle.lalrpop_norm_theory.specs.LevelRules.{level_name, by_level_names}
use Rattle.lalrpop_norm_theory.specs.LevelNames.{LeveledKey, leveled_keys_of, leveled_keys, tighter_levels}
use Rattle.lalrpop_norm_theory.specs.LevelNames.{plain_levels_of, plain_levels, HasNoTildes}
use Rattle.lalrpop_norm_theory.specs.LevelLaws.{nonterminal_by_level, IsLevelable, TellsOwnRules}
use Rattle.lalrpop_norm_theory.proofs.LevelOrderLemmas.{one_rule, tighter-among}
use Rattle.lalrpop_grammar_language.proofs.AmongLemmas.{found_text}
use Rattle.lalrpop_norm_theory.proofs.LeveledRuleLemmas.{rule_of_key, key_rule, rule_key}
use Rattle.lalrpop_norm_theory.proofs.LevelAttrLemmas.{key_parameters}
use Rattle.lalrpop_norm_theory.proofs.RightLevelLemmas.{has_loosest}
use Rattle.lalrpop_norm_theory.proofs.LevelNameLemmas.{before, after, own_rule, loosest_name, rule_stays}
use Rattle.lalrpop_norm_theory.proofs.LevelExpansionLemmas.{From, well_in, call_of}
use Rattle.lalrpop_norm_theory.proofs.LevelExpansionLemmas.{levels_keep}
use Rattle.lalrpop_norm_theory.proofs.WellLeveledLemmas.{IsWell, IsWellOrFaulty, key_named, key_found, key_of_rule}
use Rattle.lalrpop_norm_theory.proofs.LevelTextLemmas.{IsNamedLevel, named_level, plain_listed, numbered_name, printed_alike}
use Rattle.lalrpop_norm_theory.proofs.LevelTextLemmas.{first_of_text}
use Rattle.lalrpop_norm_theory.proofs.LastLemmas.{head_in, ends_in_digit, numbered_end, named_alone}

-- levels under one name

-- rules of one name have the same parameters
same_parameters : (finds : Text → Text → Option Bool) (g : Grammar) (f : Text → ℕ → Text) → IsLevelable finds g f →
    (r q : Rule) (level other : Option ℕ) → Among (rules_of g.items) r → HasLevel (rule_between r) level →
    Among (rules_of g.items) q → HasLevel (rule_between q) other → level_name f r.name level ≡ level_name f q.name other →
    r.parameters ≡ q.parameters
same_parameters finds g f w r q level other i h j k e =
    let a = rule_between (rule_of_key f r level) in
    let b = rule_between (rule_of_key f q other) in
    let same : a ≡ b = one_rule (after finds g f) (level_name f q.name other) a b
    (subst (λ t. IsRule (after finds g f) t a) e (key_rule finds g f w.names r level i h))
    (key_rule finds g f w.names q other j k) in
    sym (key_parameters f r level) ∙ ap (λ x. x.parameters) same ∙ key_parameters f q other

-- and are one rule at one level
same_key : (finds : Text → Text → Option Bool) (g : Grammar) (f : Text → ℕ → Text) → IsLevelable finds g f →
    (r q : Rule) (level other : Option ℕ) → Among (rules_of g.items) r → HasLevel (rule_between r) level →
    Among (rules_of g.items) q → HasLevel (rule_between q) other → level_name f r.name level ≡ level_name f q.name other →
    (r.name ≡ q.name) × (level ≡ other)
same_key finds g f w r q level other i h j k e =
    let a = key_found f (leveled_keys g) (r.name, level) w.names.apart (listed r level i h) in
    let b = key_found f (leveled_keys g) (q.name, other) w.names.apart (listed q other j k) in
    let same : pair_of r level ≡ pair_of q other = sym a ∙ ap (key_named f (leveled_keys g)) e ∙ b in
    (ap (λ z. z.0) same, ap (λ z. z.1) same)
  where
    pair_of : Rule → Option ℕ → LeveledKey
    pair_of p l = (p.name, l)

    listed : (p : Rule) (l : Option ℕ) → Among (rules_of g.items) p → HasLevel (rule_between p) l →
        Among {A = LeveledKey} (leveled_keys g) (p.name, l)
    listed p l m n = flat_map_among leveled_keys_of (rules_of g.items) p (p.name, l) m (key_of_rule p l n)

-- no key prints as a macro's tighter level is called

-- a macro at a tighter level
pub record IsMacroLevel (g : Grammar) (r : Rule) (j : ℕ) : Type 0 where
  pub among : Among (rules_of g.items) r
  pub macro : r.parameters ≢ []
  pub level : Among (tighter_levels r) j
  pub not_loosest : loosest (rule_between r) ≢ Some j

no_plain_rule : (finds : Text → Text → Option Bool) (g : Grammar) (f : Text → ℕ → Text) → IsLevelable finds g f →
    (r : Rule) (j : ℕ) → IsMacroLevel g r j → (q : Rule) (level : Option ℕ) → Among (rules_of g.items) q →
    HasLevel (rule_between q) level → q.parameters ≡ [] → level_name f q.name level ≡ f r.name j → ⊥
no_plain_rule finds g f w r j m q level i h none e =
    m.macro (sym (same_parameters finds g f w q r level (Some j) i h m.among (tighter-among (rule_between r) j m.level) e) ∙ none)

no_such_rule : (finds : Text → Text → Option Bool) (g : Grammar) (f : Text → ℕ → Text) → IsLevelable finds g f →
    (r : Rule) (j : ℕ) → IsMacroLevel g r j → (q : Rule) → Among (rules_of g.items) q → q.name ≡ f r.name j → ⊥
no_such_rule finds g f w r j m q i e =
    let k = same_key finds g f w q r (loosest (rule_between q)) (Some j) i (has_loosest g w.right q i) m.among
    (tighter-among (rule_between r) j m.level) (w.names.loosest_kept q i ∙ e) in
    let own : IsRule (before finds g) r.name (rule_between q) =
    subst (λ t. IsRule (before finds g) t (rule_between q)) k.0 (own_rule finds g f w q i) in
    let same : rule_between q ≡ rule_between r =
    one_rule (before finds g) r.name (rule_between q) (rule_between r) own (own_rule finds g f w r m.among) in
    m.not_loosest (ap loosest (sym same) ∙ k.1)

-- a plain level that is listed
no_plain_level : (finds : Text → Text → Option Bool) (g : Grammar) (f : Text → ℕ → Text) → IsLevelable finds g f →
    (r : Rule) (j : ℕ) → IsMacroLevel g r j → (k : Text × ℕ) → Among (plain_levels g) k → f k.0 k.1 ≡ f r.name j → ⊥
no_plain_level finds g f w r j m k i e =
    let u = among_flat_map plain_levels_of (rules_of g.items) k i in go u.0 u.1 u.0.parameters refl u.2
  where
    go : (q : Rule) → Among (rules_of g.items) q → (ps : List Text) → q.parameters ≡ ps →
        Among (if has_none ps then map (λ l. (q.name, l)) (tighter_levels q) else []) k → ⊥
    go q h [] none t =
        let v = among_map (λ l. (q.name, l)) (tighter_levels q) k t in
        no_plain_rule finds g f w r j m q (Some v.0) h (tighter-among (rule_between q) v.0 v.1) none
        (ap (λ z. f z.0 z.1) v.2 ∙ e)
    go q h (p ∷ ps) some t = absurd t

no_such_text : (finds : Text → Text → Option Bool) (g : Grammar) (f : Text → ℕ → Text) → IsLevelable finds g f →
    (r : Rule) (j : ℕ) → IsMacroLevel g r j → (q : Rule) (level : Option ℕ) → Among (rules_of g.items) q →
    HasLevel (rule_between q) level → q.parameters ≡ [] → level_text (before finds g) q.name level ≡ f r.name j →
    IsNamedLevel finds g f q level → ⊥
no_such_text finds g f w r j m q level i h none e (IsNamedLevel.own name text) =
    no_plain_rule finds g f w r j m q level i h none (name ∙ sym text ∙ e)
no_such_text finds g f w r j m q level i h none e (IsNamedLevel.tighter l is t far text) = by_name (has_text (f r.name j) names) refl
  where
    names : List Text
    names = map (λ a. a.name) (rules_of g.items)

    by_name : (b : Bool) → has_text (f r.name j) names ≡ b → ⊥
    by_name true there =
        let u = among_map (λ a. a.name) (rules_of g.items) (f r.name j) (found_text (f r.name j) names there) in
        no_such_rule finds g f w r j m u.0 u.1 u.2
    by_name false free =
        let u = first_of_text f (f r.name j) names (plain_levels g) w.names.plain free (q.name, l)
        (plain_listed g q l i none t) (sym text ∙ e) in
        no_plain_level finds g f w r j m u.0 u.1 u.2

-- none of the expansion does
pub no_such_key : (finds : Text → Text → Option Bool) (g : Grammar) (f : Text → ℕ → Text) → IsLevelable finds g f →
    (r : Rule) (j : ℕ) → IsMacroLevel g r j → (x : Closed) → InExpansion (before finds g) (Nonterminal.closed x) →
    leveled_key_text (before finds g) x ≡ f r.name j → ⊥
no_such_key finds g f w r j m x i e =
    let k = numbered_name finds g f w r m.among j m.level in
    let digit : ends_in_digit (leveled_key_text (before finds g) x) ≡ true =
    ap ends_in_digit (e ∙ k.1) ∙ numbered_end r.name j k.0 in
    let u = named_alone (level_text (before finds g)) x (head_in (before finds g) x i) digit in
    alone u.0 u.1 (subst (IsWellOrFaulty (before finds g)) u.2 (well_in finds g f w (Nonterminal.closed x) i))
    (ap (leveled_key_text (before finds g)) (sym u.2) ∙ e)
  where
    no_parameters : (ps : List Text) → length {A = Closed} [] ≡ length ps → ps ≡ []
    no_parameters [] e = refl
    no_parameters (p ∷ ps) e = cc

    well : (n : Text) (level : Option ℕ) → level_text (before finds g) n level ≡ f r.name j →
        IsWell (before finds g) (Closed.call n Closeds.none level) → ⊥
    well n level text h =
        let u = call_of finds g n Closeds.none level h in
        no_such_text finds g f w r j m u.0 level u.1.among u.1.has_level (no_parameters u.0.parameters u.1.many)
        (subst (λ t. level_text (before finds g) t level ≡ f r.name j) (sym u.2) text)
        (named_level finds g f w u.0 u.1.among level u.1.has_level)

    alone : (n : Text) (level : Option ℕ) → IsWellOrFaulty (before finds g) (Closed.call n Closeds.none level) →
        level_text (before finds g) n level ≡ f r.name j → ⊥
    alone n level (inl f) text = cc
    alone n level (inr h) text = well n level text h

-- numbers

abbrev KeyNumber : (Text → ℕ → Text) → (Closed → ℕ) → Closed → ℕ
KeyNumber f number x = number (by_level_names f x)

-- a macro of the leveled grammar is a written one, where a key prints as it is called
macro_back : (finds : Text → Text → Option Bool) (g : Grammar) (f : Text → ℕ → Text) → IsLevelable finds g f →
    (number : Closed → ℕ) (q : EnabledRule) → Among (after finds g f).rules q → q.parameters ≢ [] → (x : Closed) →
    InExpansion (before finds g) (Nonterminal.closed x) → q.name ≡ leveled_key_text (before finds g) x →
    IsNextNumber (before finds g) (leveled_key_text (before finds g)) number (leveled_key_text (before finds g) x) (suc zero)
macro_back finds g f w number q i some x j e =
    let u = rule_key finds g f q i in
    let r = u.2.rule in
    let same : rule_between (rule_of_key f r u.2.level) ≡ q = ap rule_between u.2.is_it ∙ u.1 in
    let macro : r.parameters ≢ [] =
    λ none. some (ap (λ a. a.parameters) (sym same) ∙ key_parameters f r u.2.level ∙ none) in
    let named = key_rule finds g f w.names r u.2.level u.2.among u.2.has_level in
    let name_is : level_name f r.name u.2.level ≡ q.name =
    sym (rule_there (after finds g f) (level_name f r.name u.2.level) (rule_between (rule_of_key f r u.2.level)) named).1
    ∙ ap (λ a. a.name) same in
    go r u.2.level u.2.among macro (name_is ∙ e) (named_level finds g f w r u.2.among u.2.level u.2.has_level)
  where
    go : (r : Rule) (level : Option ℕ) → Among (rules_of g.items) r → r.parameters ≢ [] →
        level_name f r.name level ≡ leveled_key_text (before finds g) x → IsNamedLevel finds g f r level →
        IsNextNumber (before finds g) (leveled_key_text (before finds g)) number (leveled_key_text (before finds g) x) (suc zero)
    go r level i macro name (IsNamedLevel.own own text) =
        IsNextNumber.after_macro (rule_between r) (map_among rule_between (rules_of g.items) r i) macro (sym own ∙ name)
    go r level i macro name (IsNamedLevel.tighter l is t far text) =
        absurd (no_such_key finds g f w r l (record { among = i; macro = macro; level = t; not_loosest = far }) x j
        (sym name ∙ ap (level_name f r.name) is))

-- a number that is free there is free here
next_back : (finds : Text → Text → Option Bool) (g : Grammar) (f : Text → ℕ → Text) → IsLevelable finds g f →
    HasNoTildes g →
    ((y : Nonterminal) → InExpansion (after finds g f) y → From finds g f y) → (number : Closed → ℕ) (x : Closed) →
    InExpansion (before finds g) (Nonterminal.closed x) → (text : Text) → text ≡ leveled_key_text (before finds g) x →
    (k : ℕ) → IsNextNumber (after finds g f) flat_key_text number text k →
    IsNextNumber (before finds g) (leveled_key_text (before finds g)) (KeyNumber f number) text k
next_back finds g f w plain from number x i text e k IsNextNumber.first = IsNextNumber.first
next_back finds g f w plain from number x i text e k (IsNextNumber.after_key y j t n) =
    let u = from (Nonterminal.closed y) j in go u.0 u.1 u.2
  where
    go : (z : Nonterminal) → InExpansion (before finds g) z → Nonterminal.closed y ≡ nonterminal_by_level f z →
        IsNextNumber (before finds g) (leveled_key_text (before finds g)) (KeyNumber f number) text k
    go (Nonterminal.start m) l same = cc
    go (Nonterminal.closed z) l same =
        let is : y ≡ by_level_names f z = cc in
        let printed = printed_alike finds g f w plain z (well_in finds g f w (Nonterminal.closed z) l) in
        IsNextNumber.after_key z l (sym printed ∙ ap flat_key_text (sym is) ∙ t) (ap number (sym is) ∙ n)
next_back finds g f w plain from number x i text e k (IsNextNumber.after_macro q j some name) =
    subst (λ t. IsNextNumber (before finds g) (leveled_key_text (before finds g)) (KeyNumber f number) t (suc zero)) (sym e)
    (macro_back finds g f w (KeyNumber f number) q j some x i (name ∙ e))

-- the law

-- names of the leveled grammar's expansion are names of that of the grammar with levels
pub names_back : (finds : Text → Text → Option Bool) (g : Grammar) (f : Text → ℕ → Text) (prefix : Text)
    (name_of : Nonterminal → Text) → IsLevelable finds g f → TellsOwnRules g → HasNoTildes g →
    IsNaming flat_key_text prefix (after finds g f) name_of →
    IsNaming (leveled_key_text (before finds g)) prefix (before finds g) (λ x. name_of (nonterminal_by_level f x))
names_back finds g f prefix name_of w tells plain h = record {
  number = KeyNumber f h.number;
  apart = λ x y i j e. same.apart x y i j
      (h.apart (nonterminal_by_level f x) (nonterminal_by_level f y) (same.there x i) (same.there y j) e);
  starts = λ n i. h.starts n (same.there (Nonterminal.start n) i);
  rules = λ r i none. rule_named r i none;
  macros = λ r x i some j e. macro_named r x i some j e;
  printed = λ x i. h.printed (by_level_names f x) (same.there (Nonterminal.closed x) i)
      ∙ ap (λ t. with_number t (KeyNumber f h.number x)) (text x i);
  packed = λ x i. next_back finds g f w plain (λ y j. same.no_other y j) h.number x i (leveled_key_text (before finds g) x) refl
      (KeyNumber f h.number x)
      (subst (λ t. IsNextNumber (after finds g f) flat_key_text h.number t (KeyNumber f h.number x)) (text x i)
      (h.packed (by_level_names f x) (same.there (Nonterminal.closed x) i)));
}
  where
    same : SameExpansion (before finds g) (after finds g f) (nonterminal_by_level f)
    same = levels_keep finds g f w tells

    text : (x : Closed) → InExpansion (before finds g) (Nonterminal.closed x) →
        flat_key_text (by_level_names f x) ≡ leveled_key_text (before finds g) x
    text x i = printed_alike finds g f w plain x (well_in finds g f w (Nonterminal.closed x) i)

    rule_named : (r : EnabledRule) → IsRule (before finds g) r.name r → r.parameters ≡ [] →
        name_of (Nonterminal.closed (Closed.call (level_name f r.name (loosest r)) Closeds.none None)) ≡ r.name
    rule_named r i none =
        let o = rule_stays finds g f w r.name r i in
        let name_is : o.0.name ≡ r.name = (rule_there (after finds g f) r.name o.0 o.1).1 in
        ap (λ t. name_of (Nonterminal.closed (Closed.call t Closeds.none None))) (loosest_name finds g f w r.name r i ∙ sym name_is)
        ∙ ap (λ l. name_of (Nonterminal.closed (Closed.call o.0.name Closeds.none l))) (sym (no_loosest o.0 o.3))
        ∙ h.rules o.0 (subst (λ t. IsRule (after finds g f) t o.0) (sym name_is) o.1) (o.2 ∙ none)
        ∙ name_is

    macro_named : (r : EnabledRule) (x : Nonterminal) → Among (before finds g).rules r → r.parameters ≢ [] →
        InExpansion (before finds g) x → name_of (nonterminal_by_level f x) ≡ r.name → ⊥
    macro_named r x i some j e =
        let o = rule_stays finds g f w r.name r (w.resolved.rules r i) in
        let there = rule_there (after finds g f) r.name o.0 o.1 in
        h.macros o.0 (nonterminal_by_level f x) there.0 (λ none. some (sym o.2 ∙ none)) (same.there x j) (e ∙ sym there.1)
