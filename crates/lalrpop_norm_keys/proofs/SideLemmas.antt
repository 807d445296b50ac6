-- Right sides that are put one behind another, and the alternatives that the program keeps; for the walk over a rule.
use Rattle.std.proofs.Common.{◌≡◌, ℕ, ◌+◌, List, [], ◌∷◌, refl, ap, sym, ◌∙◌, subst, inl, inr}
use Rattle.std.proofs.Common.{◌⊎◌, map}
use Rattle.std.specs.Prelude.{Bool, Option, Some, None, option_map, Result, Ok, Err, IfErr}
use Rattle.lalrpop_grammar.specs.Views.{condition_view}
use Rattle.lalrpop_grammar_symbols.specs.Symbols.{Text, Closed}
use Rattle.lalrpop_grammar_language.specs.Among.{Among}
use Rattle.lalrpop_grammar_language.specs.Enabled.{EnabledGrammar, EnabledRule, Choice}
use Rattle.lalrpop_grammar_language.specs.Levels.{Rank, levels, ranked_choices}
use Rattle.lalrpop_grammar_language.specs.Closing.{Binding, right_side}
use Rattle.lalrpop_grammar_language.specs.Conditions.{Holds}
use Rattle.lalrpop_norm_theory.proofs.AmongLemmas.{among_either}
use Rattle.lalrpop_grammar_language.proofs.OrderLemmas.{among_parts}
use Rattle.lalrpop_grammar_rules.specs.Details.{ChoiceDetail, Kept, choice_detail, choice_view, choices_view, enabled_rule_view}
use Rattle.lalrpop_grammar_rules.specs.Details.{tighter_in}
use Rattle.lalrpop_grammar_rules.specs.RuleTable.{IsKept}
use Rattle.lalrpop_grammar_rules.specs.declared.rule.Choice as program
use Rattle.lalrpop_grammar_rules.specs.declared.rule.EnabledRule as kept
use Rattle.lalrpop_grammar_repr.specs.declared.session.NormFault.{NormFault}
use Rattle.lalrpop_grammar_repr.specs.declared.session.NormFault.TheVariants as faults
use Rattle.lalrpop_norm_keys.specs.MacroFaults.{TellsOfAlternative}
use Rattle.lalrpop_norm_keys.specs.Instances.{AddsSide, AddsSides, AreTight, TellsOfSome, kept_from}

-- what is kept of an alternative, without the next tighter level
abbrev kept_part : ChoiceDetail → Choice × Option Rank
kept_part d = (d.0, d.1.0)

parts_of_details : (ls : List ℕ) (ps : List (Choice × Option Rank)) → map kept_part (map (choice_detail ls) ps) ≡ ps
parts_of_details ls [] = refl
parts_of_details ls (p ∷ ps) = ap (λ l. p ∷ l) (parts_of_details ls ps)

tight_details : (ls : List ℕ) (ps : List (Choice × Option Rank)) → AreTight ls (map (choice_detail ls) ps)
tight_details ls [] d h = absurd h
tight_details ls (p ∷ ps) d (inl e) =
    sym (ap (λ (x : ChoiceDetail). x.1.1) e) ∙ ap (λ (x : ChoiceDetail). tighter_in ls x.1.0) e
tight_details ls (p ∷ ps) d (inr h) = tight_details ls ps d h

module _ (features : List Text) (r : kept.EnabledRule) (is : IsKept features r) where
  abbrev seen : EnabledRule
  seen = enabled_rule_view features r

  kept_details : choices_view (r.written.now).name.0 0 r.choices ≡ map (choice_detail (levels seen)) (ranked_choices seen)
  kept_details = ap (λ (q : Kept). q.1.1.1) is

  -- all alternatives are kept, with their ranks
  pub kept_are_ranked : kept_from (r.written.now).name.0 0 r.choices ≡ ranked_choices seen
  kept_are_ranked = ap (map kept_part) kept_details ∙ parts_of_details (levels seen) (ranked_choices seen)

  -- each with the next tighter level
  pub kept_are_tight : AreTight (levels seen) (choices_view (r.written.now).name.0 0 r.choices)
  kept_are_tight = subst (AreTight (levels seen)) (sym kept_details) (tight_details (levels seen) (ranked_choices seen))

-- of the alternatives from a place on the first is tight, and so are the others
pub tight_first : (ls : List ℕ) (n : Text) (k : ℕ) (o : Option program.Choice) (cs : List (Option program.Choice))
    → AreTight ls (choices_view n k (o ∷ cs)) → AreTight ls (choices_view n 0 (o ∷ []))
tight_first ls n k None cs h d i = absurd i
tight_first ls n k (Some c) cs h d (inl e) =
    sym (ap (λ (x : ChoiceDetail). x.1.1) e) ∙ h (choice_view n k c) (inl refl) ∙ ap (λ (x : ChoiceDetail). tighter_in ls x.1.0) e
tight_first ls n k (Some c) cs h d (inr i) = absurd i

-- where all alternatives have the next tighter one of these levels, those behind the first have it
pub tight_others : (ls : List ℕ) (n : Text) (k : ℕ) (o : Option program.Choice) (cs : List (Option program.Choice))
    → AreTight ls (choices_view n k (o ∷ cs)) → AreTight ls (choices_view n (k + 1) cs)
tight_others ls n k None cs h = h
tight_others ls n k (Some c) cs h = λ d i. h d (inr i)

module _ (g : EnabledGrammar) (r : EnabledRule) (b : Binding) where
  -- the right side of the alternative at a place, and then those of the others
  pub sides_next : (n : Text) (k : ℕ) (o : Option program.Choice) (cs : List (Option program.Choice)) (old mid new : List Closed)
      → AddsSides g r b (kept_from n 0 (o ∷ [])) old mid → AddsSides g r b (kept_from n (k + 1) cs) mid new
      → AddsSides g r b (kept_from n k (o ∷ cs)) old new
  sides_next n k None cs old mid new e w = subst (λ l. AddsSides g r b (kept_from n (k + 1) cs) l new) e w
  sides_next n k (Some c) cs old mid new (next, a, e) w = (next, a, subst (λ l. AddsSides g r b (kept_from n (k + 1) cs) l new) e w)

  -- an alternative whose condition holds, and a symbol of its right side
  abbrev pub IsOfSide : List (Choice × Option Rank) → Closed → Type 0
  IsOfSide ps x = (p : Choice × Option Rank) × Among ps p × Holds g b p.0.condition × Among (right_side g r b p) x

  -- what is put behind the symbols stands on the right side of an alternative whose condition holds
  pub added_of_sides : (ps : List (Choice × Option Rank)) (old new : List Closed) → AddsSides g r b ps old new → (x : Closed)
      → Among new x → Among old x ⊎ IsOfSide ps x
  added_of_sides [] old new e x i = inl (subst (λ l. Among l x) e i)
  added_of_sides (p ∷ ps) old new (next, a, w) x i = later (added_of_sides ps next new w x i)
    where
      here : Holds g b p.0.condition → Among old x ⊎ Among (right_side g r b p) x → Among old x ⊎ IsOfSide (p ∷ ps) x
      here h (inl j) = inl j
      here h (inr j) = inr (p, inl refl, h, j)

      of_next : AddsSide g r b p old next → Among next x → Among old x ⊎ IsOfSide (p ∷ ps) x
      of_next (inl s) j = here s.0 (among_parts old (right_side g r b p) x (subst (λ l. Among l x) s.1 j))
      of_next (inr s) j = inl (subst (λ l. Among l x) s.1 j)

      later : Among next x ⊎ IsOfSide ps x → Among old x ⊎ IsOfSide (p ∷ ps) x
      later (inl j) = of_next a j
      later (inr s) = inr (s.0, inr s.1, s.2, s.3)

  -- and all that stands there, and what was there, is there
  pub all_of_sides : (ps : List (Choice × Option Rank)) (old new : List Closed) → AddsSides g r b ps old new → (x : Closed)
      → Among old x ⊎ IsOfSide ps x → Among new x
  all_of_sides [] old new e x (inl i) = subst (λ l. Among l x) (sym e) i
  all_of_sides [] old new e x (inr s) = absurd s.1
  all_of_sides (p ∷ ps) old new (next, a, w) x h = all_of_sides ps next new w x (first h)
    where
      kept_one : AddsSide g r b p old next → Among old x → Among next x
      kept_one (inl s) i = subst (λ l. Among l x) (sym s.1) (among_either old (right_side g r b p) x (inl i))
      kept_one (inr s) i = subst (λ l. Among l x) (sym s.1) i

      put_one : AddsSide g r b p old next → Holds g b p.0.condition → Among (right_side g r b p) x → Among next x
      put_one (inl s) held i = subst (λ l. Among l x) (sym s.1) (among_either old (right_side g r b p) x (inr i))
      put_one (inr s) held i = absurd (s.0 held)

      of_side : (q : Choice × Option Rank) → (p ≡ q) ⊎ Among ps q → Holds g b q.0.condition → Among (right_side g r b q) x →
          Among next x ⊎ IsOfSide ps x
      of_side q (inl e) held i =
          inl (put_one a (subst (λ z. Holds g b z.0.condition) (sym e) held) (subst (λ z. Among (right_side g r b z) x) (sym e) i))
      of_side q (inr j) held i = inr (q, j, held, i)

      first : Among old x ⊎ IsOfSide (p ∷ ps) x → Among next x ⊎ IsOfSide ps x
      first (inl i) = inl (kept_one a i)
      first (inr s) = of_side s.0 s.1 s.2 s.3

module _ (finds : Text → Text → Option Bool) (deep : Text → Bool) (b : Binding) where
  -- a fault of the alternative at a place is one of those from that place on
  pub tells_here : (n : Text) (k : ℕ) (o : Option program.Choice) (cs : List (Option program.Choice)) (f : NormFault)
      → TellsOfSome finds deep b (kept_from n 0 (o ∷ [])) f → TellsOfSome finds deep b (kept_from n k (o ∷ cs)) f
  tells_here n k o cs faults.Memory t = tt
  tells_here n k None cs (faults.Norm e) (p, i, t) = absurd i
  tells_here n k None cs faults.ConditionLimit (p, i, t) = absurd i
  tells_here n k (Some c) cs (faults.Norm e) (p, inl i, t) =
      (kept_part (choice_view n k c), inl refl, subst (λ q. TellsOfAlternative finds deep b q.0.condition (faults.Norm e)) (sym i) t)
  tells_here n k (Some c) cs (faults.Norm e) (p, inr i, t) = absurd i
  tells_here n k (Some c) cs faults.ConditionLimit (p, inl i, t) =
      (kept_part (choice_view n k c), inl refl, subst (λ q. TellsOfAlternative finds deep b q.0.condition faults.ConditionLimit) (sym i) t)
  tells_here n k (Some c) cs faults.ConditionLimit (p, inr i, t) = absurd i

  -- and one of those from the next place on, too
  pub tells_later : (n : Text) (k : ℕ) (o : Option program.Choice) (cs : List (Option program.Choice)) (f : NormFault)
      → TellsOfSome finds deep b (kept_from n (k + 1) cs) f → TellsOfSome finds deep b (kept_from n k (o ∷ cs)) f
  tells_later n k o cs faults.Memory t = tt
  tells_later n k None cs (faults.Norm e) t = t
  tells_later n k None cs faults.ConditionLimit t = t
  tells_later n k (Some c) cs (faults.Norm e) (p, i, t) = (p, inr i, t)
  tells_later n k (Some c) cs faults.ConditionLimit (p, i, t) = (p, inr i, t)

  -- what is told of the one alternative
  pub tells_one : (n : Text) (c : program.Choice) (f : NormFault)
      → TellsOfAlternative finds deep b (option_map condition_view (c.alternative.now).condition) f
      → TellsOfSome finds deep b (kept_from n 0 (Some c ∷ [])) f
  tells_one n c faults.Memory t = tt
  tells_one n c (faults.Norm e) t = (kept_part (choice_view n 0 c), inl refl, t)
  tells_one n c faults.ConditionLimit t = (kept_part (choice_view n 0 c), inl refl, t)

  pub tells_one_err : {T : Type 0} (n : Text) (c : program.Choice) (o : Option program.Choice) → o ≡ Some c → (r : Result T NormFault)
      → IfErr r (TellsOfAlternative finds deep b (option_map condition_view (c.alternative.now).condition))
      → IfErr r (TellsOfSome finds deep b (kept_from n 0 (o ∷ [])))
  tells_one_err n c o e (Ok x) h = h
  tells_one_err n c o e (Err f) h = subst (λ q. TellsOfSome finds deep b (kept_from n 0 (q ∷ [])) f) (sym e) (tells_one n c f h)

  -- a fault of the next alternative is one of all
  pub tells_of_all : (n : Text) (k : ℕ) (cs rest all : List (Option program.Choice)) (o : Option program.Choice)
      (ps : List (Choice × Option Rank)) → cs ≡ o ∷ rest → kept_from n 0 all ≡ ps
      → ((f : NormFault) → TellsOfSome finds deep b (kept_from n k cs) f → TellsOfSome finds deep b (kept_from n 0 all) f)
      → (e : NormFault) → TellsOfSome finds deep b (kept_from n 0 (o ∷ [])) e → TellsOfSome finds deep b ps e
  tells_of_all n k cs rest all o ps here are w e t =
      subst (λ l. TellsOfSome finds deep b l e) are
      (w e (subst (λ l. TellsOfSome finds deep b (kept_from n k l) e) (sym here) (tells_here n k o rest e t)))
