-- Computed examples of refusals: a barren rule beside a tree, a macro that is barren before it is inlined, a private start, two trees
-- of one text.
use Rattle.std.proofs.Common.{◌≡◌, ℕ, List, [], ◌∷◌, refl, ap, sym, subst, inl, inr, None, false, true, ◌⊎◌, arith, ◌≤◌, ◌^◌}
use Rattle.std.specs.Fmt.{digits}
use Rattle.std.specs.Prelude.{codes}
use Rattle.std.specs.Cmp.Lexicographic.{slice_cmp}
use Rattle.std.specs.Ordering.{nat_cmp}
use Rattle.std.specs.declared.cmp.Ordering.TheVariants.{Less}
use Rattle.lalrpop_grammar_symbols.specs.Symbols.{Text, Terminal, Closed, Closeds}
use Rattle.lalrpop_grammar.specs.WrittenGrammar.{ConditionTest, Grammar, Origin}
use Rattle.lalrpop_grammar.specs.Trees.{Token}
use Rattle.lalrpop_grammar_language.specs.Among.{Among}
use Rattle.lalrpop_grammar_language.specs.Enabled.{Choice, EnabledGrammar, enabled_grammar}
use Rattle.lalrpop_grammar_language.specs.Expansion.{Nonterminal, RightSide, Produces}
use Rattle.lalrpop_grammar_language.specs.Derivations.{Derivation, Derivations, IsDerivationOf, AreDerivationsOf}
use Rattle.lalrpop_grammar_language.proofs.WrittenTreeLemmas.{lit, id, alt, grammar, finds, nd, tok, of_macro, on_K, yes}
use Rattle.lalrpop_norm_theory.specs.Inlined.{IsInlined}
use Rattle.lalrpop_norm_theory.specs.Premises.{IsNoRecovery}
use Rattle.lalrpop_norm_theory.proofs.AmongLemmas.{all-among}
use Rattle.lalrpop_norm_theory.specs.Keys.{leveled_key_text}
use Rattle.lalrpop_norm_theory.specs.NamesByUse.{IsNamingByUse}
use Rattle.lalrpop_norm_theory.proofs.ExpansionListLemmas.{all-of}
use Rattle.lalrpop_norm_theory.proofs.NamingListLemmas.{name_by, naming-is}
use Rattle.lalrpop_norm_theory.proofs.UsedListLemmas.{keys-by-use}
use Rattle.lalrpop_norm_theory.proofs.ProductionListLemmas.{is_production, listed}
use Rattle.lalrpop_run_theory.specs.Barren.{HasNoBarren, IsBarrenFrom, IsLeastBarrenName, IsReachedFrom, IsWrittenStart}
use Rattle.lalrpop_run_theory.proofs.BarrenLemmas.{written_start_once}
use Rattle.lalrpop_run_theory.proofs.ExamplesOfExpansions.{inline, n, place, rule, start, t}
use Rattle.lalrpop_run_theory.specs.TextAnswers.{TextAnswer}
use Rattle.lalrpop_run_prepare.specs.Carried.{IsCarried}
use Rattle.lalrpop_run.specs.Asked.{Refusal, ToldConflict, WrittenAnswer}
use Rattle.lalrpop_run.specs.Check.{HasStateCountBy}
use Rattle.lalrpop_run.specs.InlineCycles.{IsCyclic}
use Rattle.lalrpop_run.specs.InliningNumbers.{HasNumbersEnough}
use Rattle.lalrpop_run.specs.ListedFaults.{HasNoPassFault, IsListedFault}
use Rattle.lalrpop_run.specs.Report.{IsReportOfConflicts, IsReportOfStates}
use Rattle.lalrpop_run.specs.RightAnswer.{HasTokens, IsRightAnswerTo, MayBeParsed}
use Rattle.lalrpop_grammar_repr.specs.declared.methods.Method.{Method}
use Rattle.lalrpop_run.proofs.ExamplesOfUncarried.{AreCalm, IsCalm, calm_rules, only_rules}
use Rattle.lalrpop_run.proofs.ExamplesOfOneWord.{choice_at, kept_where_unmarked, private_rule, public_rule, unit_rule, word_of}
use Rattle.lalrpop_run.proofs.ExamplesOfPassFaults.{no_pass_fault, word_carried}
use Rattle.lalrpop_run.proofs.ExamplesOfRightAnswers.{asked, parsed_where_counted}
use Rattle.lalrpop_run.proofs.InlineCycleLemmas.{first_inlined}
use Rattle.lalrpop_run.proofs.OneAnswerLemmas.{parsed_where_answered}
use Rattle.lalrpop_run.proofs.PlainNumberLemmas.{plain_enough}

abbrev Chosen : Type 0
Chosen = Origin × RightSide

-- pub S = { "a", A }; A = "b" A
abbrev endless : Grammar
endless = grammar (public_rule "S" (alt (lit "a" ∷ []) ∷ alt (id "A" ∷ []) ∷ [])
    ∷ private_rule "A" (alt (lit "b" ∷ id "A" ∷ []) ∷ []) ∷ [])

abbrev g : EnabledGrammar
g = enabled_grammar finds [] endless

A_side : (o : Origin) (side : RightSide) → Produces g (rule "A") o side → side ≡ t "b" ∷ n (rule "A") ∷ []
A_side o side m = go (listed g (rule "A") o side m)
  where
    go : Among {A = Chosen} ((place "A" 0, t "b" ∷ n (rule "A") ∷ []) ∷ []) (o, side) → side ≡ t "b" ∷ n (rule "A") ∷ []
    go (inl e) = sym (ap (λ (c : Chosen). c.1) e)
    go (inr i) = absurd i

no_A : (d : Derivation) → IsDerivationOf g (n (rule "A")) d → ⊥
no_A (Derivation.leaf u p) h = absurd h
no_A (Derivation.node y o Derivations.none) h =
    subst (λ s. AreDerivationsOf g s Derivations.none) (A_side o h.1 h.2) h.3
no_A (Derivation.node y o (Derivations.more k Derivations.none)) h =
    (subst (λ s. AreDerivationsOf g s (Derivations.more k Derivations.none)) (A_side o h.1 h.2) h.3).1
no_A (Derivation.node y o (Derivations.more k (Derivations.more m ds))) h =
    no_A m (subst (λ s. AreDerivationsOf g s (Derivations.more k (Derivations.more m ds))) (A_side o h.1 h.2) h.3).1.0

S_starts : IsWrittenStart g (codes "S") (rule "S")
S_starts = record { rule = _; is_rule = refl; no_macro = refl; start_is = refl }

A_reached : IsReachedFrom g (rule "S") (rule "A")
A_reached =
    IsReachedFrom.onward (rule "S") (place "S" 1) (n (rule "A") ∷ []) (rule "A") IsReachedFrom.itself
    (is_production g (rule "S") (place "S" 1) (n (rule "A") ∷ []) (inr (inl refl))) (inl refl)

some_barren : HasNoBarren g (codes "S") → ⊥
some_barren h = let d = h (rule "S") (rule "A") S_starts A_reached in no_A d.0 d.1

A_barren : IsBarrenFrom g (codes "S") (rule "A")
A_barren = record { from = rule "S"; is_start = S_starts; reached = A_reached; barren = no_A }

-- nothing else is reached
only_these : (from x : Nonterminal) → IsWrittenStart g (codes "S") from → IsReachedFrom g from x → (rule "S" ≡ x) ⊎ (rule "A" ≡ x)
only_these from x h IsReachedFrom.itself = inl (written_start_once g (codes "S") (rule "S") from S_starts h)
only_these from x h (IsReachedFrom.onward y o side z r m a) = go (only_these from y h r)
  where
    of_A : Among (n (rule "A") ∷ []) (n x) → rule "A" ≡ x
    of_A (inl e) = cc
    of_A (inr i) = absurd i

    of_b : Among (t "b" ∷ n (rule "A") ∷ []) (n x) → rule "A" ≡ x
    of_b (inl e) = cc
    of_b (inr i) = of_A i

    of_a : Among (t "a" ∷ []) (n x) → rule "A" ≡ x
    of_a (inl e) = cc
    of_a (inr i) = absurd i

    of_S : Among {A = Chosen} ((place "S" 0, t "a" ∷ []) ∷ (place "S" 1, n (rule "A") ∷ []) ∷ []) (o, side) → rule "A" ≡ x
    of_S (inl e) = of_a (subst (λ s. Among s (n x)) (sym (ap (λ (c : Chosen). c.1) e)) a)
    of_S (inr (inl e)) = of_A (subst (λ s. Among s (n x)) (sym (ap (λ (c : Chosen). c.1) e)) a)
    of_S (inr (inr i)) = absurd i

    go : (rule "S" ≡ y) ⊎ (rule "A" ≡ y) → (rule "S" ≡ x) ⊎ (rule "A" ≡ x)
    go (inl e) = inr (of_S (listed g (rule "S") o side (subst (λ w. Produces g w o side) (sym e) m)))
    go (inr e) =
        inr (of_b (subst (λ s. Among s (n x)) (A_side o side (subst (λ w. Produces g w o side) (sym e) m)) a))

abbrev names : Nonterminal → Text
names = name_by (leveled_key_text g) (codes "__") []

named : IsNamingByUse (leveled_key_text g) (codes "__") g names
unfolding digits
named = record {
  naming = naming-is g (leveled_key_text g) (codes "__") [] 2 (start ∷ rule "S" ∷ rule "A" ∷ []) refl refl refl;
  levels = tt;
  others = [];
  in_order = keys-by-use g [] refl;
  numbered = tt;
}

A_told : IsLeastBarrenName g (codes "__") (codes "S") (codes "A")
unfolding digits
A_told = record {
  name_of = names;
  naming = named;
  told = record {
    nonterminal = rule "A";
    is_barren = A_barren;
    name_is = refl;
    least = λ x b. at x (only_these b.from x b.is_start b.reached);
  };
}
  where
    at : (x : Nonterminal) → (rule "S" ≡ x) ⊎ (rule "A" ≡ x) →
        (names x ≡ codes "A") ⊎ (slice_cmp nat_cmp (codes "A") (names x) ≡ Less)
    at x (inl e) = inr (ap (λ z. slice_cmp nat_cmp (codes "A") (names z)) (sym e))
    at x (inr e) = inl (ap names (sym e))

-- no answer to a text is right, nor are tokens, a number of states, or conflicts
not_parsed : MayBeParsed asked endless → ⊥
not_parsed h = some_barren h.faultless.none_barren

pub answer_beside_a_barren_rule : (text : List ℕ) (answer : TextAnswer) →
    IsRightAnswerTo asked endless text (WrittenAnswer.to_text answer) → ⊥
answer_beside_a_barren_rule text answer h = not_parsed (parsed_where_answered asked endless text answer h)

pub tokens_beside_a_barren_rule : (text : List ℕ) (tokens : List Token) → HasTokens asked endless text tokens → ⊥
tokens_beside_a_barren_rule text tokens h = not_parsed h.parsed

pub states_beside_a_barren_rule : (method : Method) (count : ℕ) → HasStateCountBy method asked endless count → ⊥
states_beside_a_barren_rule method count h = not_parsed (parsed_where_counted method asked endless count h)

pub conflicts_beside_a_barren_rule : (text : List ℕ) (told : List ToldConflict) →
    IsRightAnswerTo asked endless text (WrittenAnswer.conflicting told) → ⊥
conflicts_beside_a_barren_rule text told (IsRightAnswerTo.conflicts all h) = some_barren h.faultless.none_barren

pub report_beside_a_barren_rule : (method : Method) (text : Text) → IsReportOfStates asked endless method text → ⊥
report_beside_a_barren_rule method text h = not_parsed h.parsed

pub report_of_conflicts_beside_a_barren_rule : (text : Text) → IsReportOfConflicts asked endless text → ⊥
report_of_conflicts_beside_a_barren_rule text h = some_barren h.faultless.none_barren

carried : IsCarried finds [] endless
carried = record {
  no_extern = only_rules endless refl;
  no_recovery = calm_rules g (all-among AreCalm g.rules (of_S, (of_A, tt)));
}
  where
    of_S : (c : Choice) → Among (choice_at "S" 0 (lit "a" ∷ []) ∷ choice_at "S" 1 (id "A" ∷ []) ∷ []) c → IsCalm c
    of_S = all-among IsCalm (choice_at "S" 0 (lit "a" ∷ []) ∷ choice_at "S" 1 (id "A" ∷ []) ∷ [])
        (all-among IsNoRecovery (lit "a" ∷ []) (tt, tt), (all-among IsNoRecovery (id "A" ∷ []) (tt, tt), tt))

    of_A : (c : Choice) → Among (choice_at "A" 0 (lit "b" ∷ id "A" ∷ []) ∷ []) c → IsCalm c
    of_A = all-among IsCalm (choice_at "A" 0 (lit "b" ∷ id "A" ∷ []) ∷ [])
        (all-among IsNoRecovery (lit "b" ∷ id "A" ∷ []) (tt, (tt, tt)), tt)

-- nothing is inlined
endless_numbers : HasNumbersEnough g (codes "__")
endless_numbers =
    plain_enough g (codes "__") (start ∷ rule "S" ∷ rule "A" ∷ []) refl refl names named
    (let few : 4 ≤ 2 ^ 32 = omega arith in few)

-- where the passes find nothing, the barren rule is right
pub barren_rule : (text : List ℕ) → HasNoPassFault asked endless →
    IsRightAnswerTo asked endless text (WrittenAnswer.refused (Refusal.barren (codes "A")))
barren_rule text passed =
    IsRightAnswerTo.fault (Refusal.barren (codes "A"))
    (IsListedFault.barren (codes "A") (record { carried = carried; faultless = passed; starts = refl })
    (record { acyclic = acyclic; numbers = endless_numbers }) A_told)
  where
    acyclic : (x : Nonterminal) → IsCyclic g x → ⊥
    acyclic x h = go (all-of g (start ∷ rule "S" ∷ rule "A" ∷ []) refl x h.0) (first_inlined g x x h.1)
      where
        go : Among (start ∷ rule "S" ∷ rule "A" ∷ []) x → IsInlined g x → ⊥
        go (inl e) k = subst (IsInlined g) (sym e) k
        go (inr (inl e)) k = kept_where_unmarked g (rule "S") refl (subst (IsInlined g) (sym e) k)
        go (inr (inr (inl e))) k = kept_where_unmarked g (rule "A") refl (subst (IsInlined g) (sym e) k)
        go (inr (inr (inr i))) k = absurd i

-- pub S = { "a", E<"y"> }; #[inline] E<K> = { "n" if K == "x" }: the call has no production
abbrev without_production : Grammar
without_production = grammar (public_rule "S" (alt (lit "a" ∷ []) ∷ alt (of_macro "E" (lit "y" ∷ []) ∷ []) ∷ [])
    ∷ unit_rule false (inline ∷ []) "E" ("K" ∷ []) (on_K ConditionTest.equals "x" (lit "n" ∷ []) ∷ []) ∷ [])

abbrev m : EnabledGrammar
m = enabled_grammar finds [] without_production

abbrev E_y : Nonterminal
E_y = Nonterminal.closed (Closed.call (codes "E") (Closeds.more (Closed.terminal (Terminal.quoted (codes "y"))) Closeds.none) None)

no_E_y : (d : Derivation) → IsDerivationOf m (n E_y) d → ⊥
no_E_y (Derivation.leaf u p) h = absurd h
no_E_y (Derivation.node y o kids) h = go (listed m E_y o h.1 h.2)
  where
    go : Among {A = Chosen} [] (o, h.1) → ⊥
    go i = i

barren_before_inlining : HasNoBarren m (codes "S") → ⊥
barren_before_inlining h = let d = h (rule "S") E_y starts reached in no_E_y d.0 d.1
  where
    starts : IsWrittenStart m (codes "S") (rule "S")
    starts = record { rule = _; is_rule = refl; no_macro = refl; start_is = refl }

    reached : IsReachedFrom m (rule "S") E_y
    reached =
        IsReachedFrom.onward (rule "S") (place "S" 1) (n E_y ∷ []) E_y IsReachedFrom.itself
        (is_production m (rule "S") (place "S" 1) (n E_y ∷ []) (inr (inl refl))) (inl refl)

-- so `parser with 3 states` isn't right, nor is an answer to a text
pub states_beside_a_barren_macro : (method : Method) (count : ℕ) → HasStateCountBy method asked without_production count → ⊥
states_beside_a_barren_macro method count h =
    barren_before_inlining (parsed_where_counted method asked without_production count h).faultless.none_barren

pub answer_beside_a_barren_macro : (text : List ℕ) (answer : TextAnswer) →
    IsRightAnswerTo asked without_production text (WrittenAnswer.to_text answer) → ⊥
answer_beside_a_barren_macro text answer h =
    barren_before_inlining (parsed_where_answered asked without_production text answer h).faultless.none_barren

-- S = "a", which is private
abbrev no_public : Grammar
no_public = word_of false

pub answer_from_a_private_start : (text : List ℕ) (answer : TextAnswer) →
    IsRightAnswerTo asked no_public text (WrittenAnswer.to_text answer) → ⊥
answer_from_a_private_start text answer h =
    let wrong : false ≡ true = (parsed_where_answered asked no_public text answer h).faultless.lowerable.starts in
    cc

-- it is known, so it isn't told as unknown
pub private_start_as_unknown : (text : List ℕ) (name : Text) →
    IsRightAnswerTo asked no_public text (WrittenAnswer.refused (Refusal.unknown_start name)) → ⊥
private_start_as_unknown text name (IsRightAnswerTo.fault f h) = go name h
  where
    go : (name : Text) → IsListedFault asked no_public (Refusal.unknown_start name) → ⊥
    go name (IsListedFault.unknown_start c p e) = let wrong : true ≡ false = e in cc

-- that it is private is right
pub private_start : (text : List ℕ) →
    IsRightAnswerTo asked no_public text (WrittenAnswer.refused (Refusal.private_start (codes "S")))
private_start text =
    IsRightAnswerTo.fault (Refusal.private_start (codes "S"))
    (IsListedFault.private_start (word_carried false) (no_pass_fault 1000 false) refl refl)

-- pub S = { "a", "a" }: two trees of `a`
abbrev twice : Grammar
twice = grammar (public_rule "S" (alt (lit "a" ∷ []) ∷ alt (lit "a" ∷ []) ∷ []) ∷ [])

not_one_tree : MayBeParsed asked twice → ⊥
not_one_tree h =
    let same : nd "S" 0 (tok "a" ∷ []) ≡ nd "S" 1 (tok "a" ∷ []) =
    h.unambiguous (nd "S" 0 (tok "a" ∷ [])) (nd "S" 1 (tok "a" ∷ [])) _ (yes [] twice "S" (nd "S" 0 (tok "a" ∷ [])) refl)
    (yes [] twice "S" (nd "S" 1 (tok "a" ∷ [])) refl) in
    let places : ◌≡◌ {A = ℕ} 0 1 = cc in
    omega (arith, places)

pub report_of_an_ambiguous_grammar : (method : Method) (text : Text) → IsReportOfStates asked twice method text → ⊥
report_of_an_ambiguous_grammar method text h = not_one_tree h.parsed

pub answer_of_an_ambiguous_grammar : (text : List ℕ) (answer : TextAnswer) →
    IsRightAnswerTo asked twice text (WrittenAnswer.to_text answer) → ⊥
answer_of_an_ambiguous_grammar text answer h = not_one_tree (parsed_where_answered asked twice text answer h)
