-- Whether the alternative at a place may be chosen, and what it asks for: for the choosing of a node's alternative.
use Rattle.std.proofs.Common.{◌≡◌, ◌≢◌, ◌↔◌, ℕ, Bool, true, false, List, Option, Some, None, IsTrue, refl, ap, sym}
use Rattle.std.proofs.Common.{◌∙◌, map, length}
use Rattle.std.proofs.lemmas.List.{length-map}
use Rattle.std.proofs.Math.Bool.{beq, not}
use Rattle.std.specs.Prelude.{is_some, option_map, zip}
use Rattle.lalrpop_grammar_symbols.specs.Symbols.{Text, Closed, Closeds, closed_list, Terminal}
use Rattle.lalrpop_grammar_symbols.specs.declared.names.NonterminalString.{NonterminalString}
use Rattle.lalrpop_grammar.specs.WrittenGrammar.{Condition, ConditionTest, Origin}
use Rattle.lalrpop_grammar.specs.declared.condition.Condition as condition
use Rattle.lalrpop_grammar.specs.Views.{alternative_view, condition_view}
use Rattle.lalrpop_grammar_language.specs.Among.{Among}
use Rattle.lalrpop_grammar_language.specs.Enabled.{Choice, EnabledRule, IsRule, EnabledGrammar, choice_of}
use Rattle.lalrpop_grammar_language.specs.Levels as pure
use Rattle.lalrpop_grammar_language.specs.Closing.{parameter_value, right_side}
use Rattle.lalrpop_grammar_language.specs.Conditions.{Holds}
use Rattle.lalrpop_grammar_language.specs.Admitting.{AtMost, Fits, bind, rank_level}
use Rattle.lalrpop_grammar_rules.proofs.ArgumentLemmas.{closed_list-closeds}
use Rattle.lalrpop_grammar_rules.specs.Details.{Kept}
use Rattle.lalrpop_grammar_rules.specs.Ranks.{rank_view}
use Rattle.lalrpop_grammar_rules.specs.RuleTable.{rules_with}
use Rattle.lalrpop_grammar_rules.specs.Views.{binding_of, closed_view, closeds}
use Rattle.lalrpop_grammar_rules.specs.declared.closed.closed_symbol.ClosedSymbol.{ClosedSymbol}
use Rattle.lalrpop_grammar_rules.specs.declared.levels.Rank.{Rank}
use Rattle.lalrpop_grammar_rules.specs.declared.table.Rules as table
use Rattle.lalrpop_judge.specs.Admitted.{IsRightSideAt}
use Rattle.lalrpop_grammar_rules.specs.Finding.{IsFault, IsRefusal, IsSearch, IsUndecided}
use Rattle.lalrpop_grammar_rules.specs.declared.closed.condition.ConditionFault.{ConditionFault}
use Rattle.lalrpop_grammar_rules.specs.declared.closed.condition.ConditionFault.TheVariants as faults
use Rattle.lalrpop_judge.specs.Faults.{NamesSearch, OnlyWhere, fault_of}
use Rattle.lalrpop_judge.specs.declared.error.JudgeError.TheVariants as errors
use Rattle.lalrpop_judge.specs.Placed.{IsPlaced, placed_view, rule_in}
use Rattle.lalrpop_judge.specs.declared.choosing.Placed.{Placed}

-- a test that finds no difference
pub no_difference : (a b : Bool) → not (beq a b) ≡ false → a ≡ b
no_difference true true e = refl
no_difference true false e = cc
no_difference false true e = cc
no_difference false false e = refl

ranked_some : (k : Option Rank) → is_some (option_map rank_view k) ≡ is_some k
ranked_some None = refl
ranked_some (Some k) = refl

other_fault : {A : Type 0} (fault : ConditionFault) → fault ≡ faults.Memory → fault_of fault ≡ errors.Condition → A
other_fault fault m e = let same : errors.Memory ≡ errors.Condition = sym (ap fault_of m) ∙ e in absurd (cc)

refused : (finds : Text → Text → Option Bool) (deep : Text → Bool) (test : ConditionTest) (pattern text : Text)
    (fault : ConditionFault)
    → IsRefusal finds deep test pattern text fault → fault_of fault ≡ errors.Condition → IsSearch test
refused finds deep test pattern text faults.NotRead r e = r.0
refused finds deep test pattern text faults.Refused r e = r.0
refused finds deep test pattern text faults.Memory r e = absurd (cc)

search_of : (finds : Text → Text → Option Bool) (deep : Text → Bool) (c : Condition) (fault : ConditionFault) (o : Option Closed)
    → IsUndecided finds deep c o fault → fault_of fault ≡ errors.Condition → IsSearch c.test
search_of finds deep c fault None u e = other_fault fault u e
search_of finds deep c fault (Some (Closed.terminal (Terminal.quoted t))) u e = refused finds deep c.test c.against t fault u e
search_of finds deep c fault (Some (Closed.terminal (Terminal.regex t))) u e = other_fault fault u e
search_of finds deep c fault (Some (Closed.terminal (Terminal.bare t))) u e = other_fault fault u e
search_of finds deep c fault (Some (Closed.terminal Terminal.error)) u e = other_fault fault u e
search_of finds deep c fault (Some (Closed.call m xs l)) u e = other_fault fault u e
search_of finds deep c fault (Some (Closed.repeat op x)) u e = other_fault fault u e
search_of finds deep c fault (Some (Closed.group xs)) u e = other_fault fault u e
search_of finds deep c fault (Some (Closed.choose x)) u e = other_fault fault u e
search_of finds deep c fault (Some (Closed.name m l x)) u e = other_fault fault u e
search_of finds deep c fault (Some Closed.lookahead) u e = other_fault fault u e
search_of finds deep c fault (Some Closed.lookbehind) u e = other_fault fault u e
search_of finds deep c fault (Some Closed.faulty) u e = other_fault fault u e

module _ (t : table.Rules) (n : Text) (place : ℕ) (p : Placed) (is : IsPlaced t n place p) (given : List ClosedSymbol)
    (level : Option ℕ)
    (finds : Text → Text → Option Bool) where
  abbrev g : EnabledGrammar
  g = rules_with finds t

  abbrev r : EnabledRule
  r = rule_in t p

  abbrev q : Choice × Option pure.Rank
  q = placed_view n place p

  abbrev args : Closeds
  args = closeds (map closed_view given)

  abbrev parameters : List NonterminalString
  parameters = (p.rule.now.written.now).args

  abbrev Stands : Type 0
  Stands = Fits g n args r q × AtMost (rank_level q.1) level

  given_list : closed_list args ≡ map closed_view given
  given_list = closed_list-closeds (map closed_view given)

  bound_so : bind r args ≡ binding_of parameters given
  bound_so = ap (λ l. zip r.parameters l) given_list

  as_many : length (closed_list args) ≡ length given
  as_many = ap length given_list ∙ length-map given closed_view

  is_only : IsRule g n r
  is_only = is.only.0

  is_among : Among (pure.ranked_choices r) q
  is_among = is.among

  levels_kept : p.rule.now.has_levels ≡ pure.has_levels r
  levels_kept = ap (λ (k : Kept). k.1.0) is.only.1

  -- too many or too few arguments
  pub not_as_many : length given ≢ length parameters → Stands → ⊥
  not_as_many other s = other (sym as_many ∙ s.0.arguments ∙ length-map parameters (λ (m : NonterminalString). m.0))

  -- a level in a rule without levels, or none in one with levels
  pub not_leveled : is_some p.choice.now.rank ≢ p.rule.now.has_levels → Stands → ⊥
  not_leveled other s = other (sym (ranked_some p.choice.now.rank) ∙ s.0.leveled ∙ sym levels_kept)

  -- else the condition decides
  pub by_condition : (yes_ : Bool) → length given ≡ length parameters → is_some p.choice.now.rank ≡ p.rule.now.has_levels
      → AtMost (rank_level q.1) level
      → IsTrue yes_ ↔ Holds g (binding_of parameters given) (option_map condition_view p.choice.now.alternative.now.condition)
      → IsTrue yes_ ↔ Stands
  by_condition yes_ full leveled low decides = (
    λ e. (
      record {
        rule = is.only.0;
        arguments = as_many ∙ full ∙ sym (length-map parameters (λ (m : NonterminalString). m.0));
        written = is.among;
        leveled = ranked_some p.choice.now.rank ∙ leveled ∙ levels_kept;
        holds = rw bound_so (decides.0 e);
      },
      low,
    ),
    λ s. decides.1 (rw bound_so at s.0.holds),
  )

  -- what the alternative asks for
  pub side_of : (side : List Closed) → Stands
      → side ≡ right_side g r (binding_of parameters given)
      (choice_of (Origin.start, alternative_view p.choice.now.alternative.now), option_map rank_view p.choice.now.rank)
      → IsRightSideAt g n args level place side
  side_of side s e = record {
    rule = r;
    choice = q;
    fits = s.0;
    at = refl;
    low = s.1;
    side_is = e ∙ ap (λ b. right_side g r b q) (sym bound_so);
  }

  -- no other alternative is asked for there
  pub only_this : (side : List Closed) → IsRightSideAt g n args level place side → Stands
  only_this side i =
      let rule : i.rule ≡ r = cc (i.fits.rule, is.only.0) in
      let among : Among (pure.ranked_choices r) i.choice = rw rule at i.fits.written in
      let choice : i.choice ≡ q = is.alone i.choice among i.at in
      (rw (rule, choice) at i.fits, rw choice at i.low)

  module _ (deep : Text → Bool) where
    -- a condition whose pattern isn't known to be found is a search
    pub searched : (o : Option condition.Condition) → (p.choice.now.alternative.now).condition ≡ o → (fault : ConditionFault)
        → IsFault finds deep (binding_of parameters given) (option_map condition_view o) fault
        → OnlyWhere (NamesSearch g n place) (fault_of fault)
    searched None has fault is = absurd is
    searched (Some c) has fault is = λ e. record {
      rule = r;
      is_rule = is_only;
      choice = q;
      among = is_among;
      at = refl;
      condition = condition_view c;
      under = ap (option_map condition_view) has;
      search = search_of finds deep (condition_view c) fault (parameter_value (binding_of parameters given) (condition_view c).parameter) is
          e;
    }
