-- Places of calls go back over resolving names; for the law of places in resolved grammars.
use Rattle.std.specs.Str.{bytes_eq}
use Rattle.std.proofs.Common.{◌≡◌, ℕ, ◌+◌, List, [], ◌∷◌, refl, ap, sym, ◌∙◌, subst, Bool, true, false, inl}
use Rattle.std.specs.Prelude.{Option, None, map, not, is_some, ◌&&◌, if◌then◌else◌}
use Rattle.lalrpop_grammar_symbols.specs.Symbols.{Text, TextSpan, Terminal, Sym, WrittenSymbol, Closed, Closeds, closed_list}
use Rattle.lalrpop_grammar.specs.WrittenGrammar.{Rule, Grammar, rules_of}
use Rattle.lalrpop_grammar_language.specs.Among.{Among}
use Rattle.lalrpop_grammar_language.specs.Enabled.{EnabledGrammar, EnabledRule, IsRule, has_text, has_name, rules_named}
use Rattle.lalrpop_grammar_language.specs.Closing.{Binding, parameter_value, name_meaning, name_meaning_in, occurrences, plain_name}
use Rattle.lalrpop_grammar_language.specs.Closing.{close, name_or}
use Rattle.lalrpop_grammar_language.specs.Admitting.{bind}
use Rattle.lalrpop_grammar_language.proofs.PlaceLemmas.{among_filter, among_map, same_text-eq}
use Rattle.lalrpop_norm_theory.specs.Between.{rule_between, written_name, grammar_between}
use Rattle.lalrpop_norm_theory.specs.Resolving.{DefinedNames, defined_names, NameUse, use_of_name, resolved_name}
use Rattle.lalrpop_norm_theory.specs.Resolving.{resolved_rule, resolved_grammar}
use Rattle.lalrpop_norm_theory.proofs.RuleChangeLemmas.{HasChangedRules}
use Rattle.lalrpop_norm_theory.proofs.ClosedNameLemmas.{ClosesAlike, CountsAlike, name_closed, scope_in}
use Rattle.lalrpop_norm_theory.proofs.NameUseLemmas.{IsUse, use_is, no_value, no_rule_named}
use Rattle.lalrpop_norm_theory.proofs.ResolvingLemmas.{rules_resolved, bares_resolved, names_kept, name_change, all_changed}
use Rattle.lalrpop_norm_theory.specs.CallPlaces.{place_of_symbol, symbols_within}
use Rattle.lalrpop_norm_theory.specs.WrittenPlaces.{IsWrittenBelow}
use Rattle.lalrpop_norm_theory.proofs.ReplacedNameLemmas.{ReplacesNames, StandsAlone, written_before}

-- resolving, as a change of rules

module _ (finds : Text → Text → Option Bool) (g : Grammar) where
  abbrev names : DefinedNames
  names = defined_names g

  abbrev before : EnabledGrammar
  before = grammar_between finds g

  abbrev after : EnabledGrammar
  after = grammar_between finds (resolved_grammar g)

  pub changed : HasChangedRules (name_change names) before after
  changed = record {
    rules = ap (map rule_between) (rules_resolved names g.items) ∙ all_changed names (rules_of g.items);
    bares = bares_resolved names g.items;
    finds = refl;
    spelled = ap written_name (rules_resolved names g.items) ∙ same;
    ranks = record { marks = λ l. refl; level = λ l. refl; side = λ l. refl };
  }
    where
      same : written_name (map (resolved_rule names) (rules_of g.items)) ≡ written_name (rules_of g.items)
      same = λ i n. names_kept names (rules_of g.items) n i

  -- what stands for a name

  abbrev pub replacement : EnabledRule → TextSpan → Text → WrittenSymbol
  replacement r p n = resolved_name (use_of_name names r.parameters n) p n

  use_placed : (u : NameUse) (p : TextSpan) (n : Text) → place_of_symbol (resolved_name u p n) ≡ p
  use_placed NameUse.parameter p n = refl
  use_placed NameUse.plain_rule p n = refl
  use_placed NameUse.macro_rule p n = refl
  use_placed NameUse.mapped p n = refl
  use_placed NameUse.nothing p n = refl

  use_alone : (u : NameUse) (b : Binding) (o : Text) (k : ℕ) (p : TextSpan) (n : Text) →
      symbols_within b o k (resolved_name u p n) ≡ []
  use_alone NameUse.parameter b o k p n = refl
  use_alone NameUse.plain_rule b o k p n = refl
  use_alone NameUse.macro_rule b o k p n = refl
  use_alone NameUse.mapped b o k p n = refl
  use_alone NameUse.nothing b o k p n = refl

  pub stands_alone : (r : EnabledRule) → StandsAlone (replacement r)
  stands_alone r = record {
    placed = λ p n. use_placed (use_of_name names r.parameters n) p n;
    alone = λ b o k p n. use_alone (use_of_name names r.parameters n) b o k p n;
  }

  -- it closes and counts as the name, in an instance of a rule
  module _ (m : Text) (r : EnabledRule) (is_rule : IsRule before m r) (args : Closeds) where
    unbound : (n : Text) → has_text n r.parameters ≡ false → parameter_value (bind r args) n ≡ None
    unbound n e = no_value r.parameters (closed_list args) n e

    none_named : (n : Text) → IsUse names r.parameters n NameUse.mapped → rules_named before n ≡ []
    none_named n u = no_rule_named (rules_of g.items) n u.1 u.2

    stays_closed : (e : ℕ → Option ℕ) (k : ℕ) (p : TextSpan) (n : Text) →
        close (scope_in after (bind r args) r.name e) k (Sym.ambiguous_id p n)
        ≡ close (scope_in before (bind r args) r.name e) k (Sym.ambiguous_id p n)
    stays_closed e k p n =
        ap (name_or (parameter_value (bind r args) n))
        (name_closed (name_change names) before after changed (bind r args) r.name e k n)

    closed_by_use : (u : NameUse) (e : ℕ → Option ℕ) (k : ℕ) (p : TextSpan) (n : Text) → IsUse names r.parameters n u →
        close (scope_in after (bind r args) r.name e) k (resolved_name u p n)
        ≡ close (scope_in before (bind r args) r.name e) k (Sym.ambiguous_id p n)
    closed_by_use NameUse.parameter e k p n w = stays_closed e k p n
    closed_by_use NameUse.macro_rule e k p n w = stays_closed e k p n
    closed_by_use NameUse.nothing e k p n w = stays_closed e k p n
    closed_by_use NameUse.plain_rule e k p n w =
        name_closed (name_change names) before after changed (bind r args) r.name e k n
        ∙ ap (λ (v : Option Closed). name_or v (plain_name (scope_in before (bind r args) r.name e) k n (name_meaning before n)))
        (sym (unbound n w.0))
    closed_by_use NameUse.mapped e k p n w =
        ap (λ (bs : List Text). if has_text n bs then Closed.terminal (Terminal.bare n) else Closed.faulty)
        (bares_resolved names g.items)
        ∙ ap (λ (b : Bool). if b then Closed.terminal (Terminal.bare n) else Closed.faulty) w.3
        ∙ sym (ap (λ (v : Option Closed). name_or v (plain_name (scope_in before (bind r args) r.name e) k n (name_meaning before n)))
        (unbound n w.0)
        ∙ ap (λ (b : Bool). plain_name (scope_in before (bind r args) r.name e) k n (name_meaning_in (rules_named before n) b)) w.3
        ∙ ap (λ (rs : List EnabledRule). plain_name (scope_in before (bind r args) r.name e) k n (name_meaning_in rs true))
        (none_named n w))

    and_true : (b : Bool) → (b && true) ≡ b
    and_true true = refl
    and_true false = refl

    -- a name without a rule isn't the owner's
    not_owner : (n : Text) → rules_named before n ≡ [] → (b : Bool) → bytes_eq n r.name ≡ b → b ≡ false
    not_owner n none false e = refl
    not_owner n none true e =
        let found = among_filter (has_name m) before.rules r (subst (λ l. Among l r) (sym is_rule) (inl refl)) in
        let same : n ≡ m = same_text-eq n r.name e ∙ same_text-eq r.name m found.1 in
        let empty : [] ≡ r ∷ [] = sym none ∙ ap (rules_named before) same ∙ is_rule in cc

    counted_by_use : (u : NameUse) (p : TextSpan) (n : Text) → IsUse names r.parameters n u →
        occurrences (bind r args) r.name (resolved_name u p n) ≡ occurrences (bind r args) r.name (Sym.ambiguous_id p n)
    counted_by_use NameUse.parameter p n w = refl
    counted_by_use NameUse.macro_rule p n w = refl
    counted_by_use NameUse.nothing p n w = refl
    counted_by_use NameUse.plain_rule p n w =
        ap (λ (b : Bool). (if b then 1 else 0) + 0) (sym (and_true (bytes_eq n r.name)))
        ∙ ap (λ (v : Option Closed). (if bytes_eq n r.name && not (is_some v) then 1 else 0) + 0) (sym (unbound n w.0))
    counted_by_use NameUse.mapped p n w =
        ap (λ (b : Bool). (if b && not (is_some (parameter_value (bind r args) n)) then 1 else 0) + 0)
        (sym (not_owner n (none_named n w) (bytes_eq n r.name) refl))

    pub counts_alike : CountsAlike (replacement r) (bind r args) r.name
    counts_alike = λ q n. counted_by_use (use_of_name names r.parameters n) q n (use_is names r.parameters n)

    pub closes_alike : ClosesAlike (replacement r) before after (bind r args) r.name
    closes_alike = λ e k q n. closed_by_use (use_of_name names r.parameters n) e k q n (use_is names r.parameters n)

  abbrev pub replaces : ReplacesNames (name_change names) before after
  replaces = record {
    changed = changed;
    by = replacement;
    alone = stands_alone;
    expr_is = λ r c. refl;
    counts = λ n r i args. counts_alike n r i args;
    closes = λ n r i args. closes_alike n r i args;
  }

  -- each resolved rule is written by its name, where it stands
  written_rule : (q : Rule) → Among (rules_of (resolved_grammar g).items) q →
      (r : Rule) × Among (rules_of g.items) r × (r.name ≡ q.name) × (r.span ≡ q.span)
  written_rule q i =
      let u = among_map (resolved_rule names) (rules_of g.items) q (subst (λ l. Among l q) (rules_resolved names g.items) i) in
      (u.0, u.1, ap (λ (t : Rule). t.name) u.2, ap (λ (t : Rule). t.span) u.2)

  -- a place in the resolved grammar is one before
  pub resolved_place : (depth : ℕ) (x : Closed) (p : TextSpan) → IsWrittenBelow after (resolved_grammar g) depth x p →
      IsWrittenBelow before g depth x p
  resolved_place depth x p h =
      written_before (name_change names) before after replaces g (resolved_grammar g) written_rule depth x p h
