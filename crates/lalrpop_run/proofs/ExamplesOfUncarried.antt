-- Computed examples of an extern block and of `!`: each is right where it is the first fault, and no answer to a text is.
use Rattle.std.proofs.Common.{◌≡◌, ℕ, List, [], ◌∷◌, refl, inl, inr, Bool, true, false, None}
use Rattle.std.specs.List.{list_all}
use Rattle.lalrpop_grammar_symbols.specs.Subsymbols.{subsymbols_of}
use Rattle.lalrpop_grammar_symbols.specs.Symbols.{Sym, WrittenSymbol, syms}
use Rattle.lalrpop_grammar.specs.WrittenGrammar.{ExternBlock, Grammar, WrittenItem}
use Rattle.lalrpop_grammar_language.specs.Among.{Among}
use Rattle.lalrpop_grammar_language.specs.Enabled.{Choice, EnabledGrammar, EnabledRule, enabled_grammar}
use Rattle.lalrpop_grammar_language.proofs.WrittenTreeLemmas.{alt, finds, grammar, here, lit}
use Rattle.lalrpop_norm_theory.specs.Premises.{HasNoExtern, HasNoRecovery, IsNoRecovery}
use Rattle.lalrpop_run_prepare.specs.Carried.{HasRecovery, IsCarried}
use Rattle.lalrpop_run_theory.specs.TextAnswers.{TextAnswer}
use Rattle.lalrpop_run.specs.Asked.{Refusal, WrittenAnswer}
use Rattle.lalrpop_run.specs.ListedFaults.{IsListedFault}
use Rattle.lalrpop_run.specs.RightAnswer.{IsRightAnswerTo}
use Rattle.lalrpop_run.proofs.ExamplesOfRightAnswers.{asked}
use Rattle.lalrpop_run.proofs.ExamplesOfOneWord.{public_rule}
use Rattle.lalrpop_run.proofs.OneAnswerLemmas.{parsed_where_answered}

-- a grammar of rules alone has no extern block
abbrev pub is_rule : WrittenItem → Bool
is_rule (WrittenItem.nonterminal r) = true
is_rule (WrittenItem.match_token groups p) = false
is_rule (WrittenItem.extern_token block) = false
is_rule (WrittenItem.intern_token entries) = false
is_rule (WrittenItem.import text) = false

no_block : (items : List WrittenItem) → list_all is_rule items ≡ true → (b : ExternBlock) → Among items (WrittenItem.extern_token b) → ⊥
no_block [] h b k = k
no_block (WrittenItem.nonterminal r ∷ items) h b (inl e) = let wrong : ⊥ = cc in wrong
no_block (WrittenItem.nonterminal r ∷ items) h b (inr k) = no_block items h b k
no_block (WrittenItem.match_token groups p ∷ items) h b k = let wrong : false ≡ true = h in cc
no_block (WrittenItem.extern_token block ∷ items) h b k = let wrong : false ≡ true = h in cc
no_block (WrittenItem.intern_token entries ∷ items) h b k = let wrong : false ≡ true = h in cc
no_block (WrittenItem.import text ∷ items) h b k = let wrong : false ≡ true = h in cc

pub only_rules : (w : Grammar) → list_all is_rule w.items ≡ true → HasNoExtern w
only_rules w h (WrittenItem.nonterminal r) k = tt
only_rules w h (WrittenItem.match_token groups p) k = tt
only_rules w h (WrittenItem.extern_token b) k = no_block w.items h b k
only_rules w h (WrittenItem.intern_token entries) k = tt
only_rules w h (WrittenItem.import text) k = tt

-- what the symbols of alternatives say, for all of a grammar
abbrev pub IsCalm : Choice → Type 0
IsCalm c = (x : WrittenSymbol) → Among (subsymbols_of (syms c.expr)) x → IsNoRecovery x

abbrev pub AreCalm : EnabledRule → Type 0
AreCalm r = (c : Choice) → Among r.choices c → IsCalm c

pub calm_rules : (g : EnabledGrammar) → ((r : EnabledRule) → Among g.rules r → AreCalm r) → HasNoRecovery g
calm_rules g h r c x s = h r s.rule c s.choice x s.symbol

-- pub S = { "a", ! }
abbrev recovering : Grammar
recovering = grammar (public_rule "S" (alt (lit "a" ∷ []) ∷ alt (Sym.error here ∷ []) ∷ []) ∷ [])

has_recovery : HasRecovery (enabled_grammar finds [] recovering)
has_recovery = record {
  rule = _;
  choice = _;
  symbol = Sym.error here;
  there = record { rule = inl refl; choice = inr (inl refl); symbol = inl refl };
  recovers = refl;
}

pub recovery_told : (text : List ℕ) → IsRightAnswerTo asked recovering text (WrittenAnswer.refused Refusal.recovery)
recovery_told text =
    IsRightAnswerTo.fault Refusal.recovery (IsListedFault.recovery (only_rules recovering refl) has_recovery)

not_carried : IsCarried finds [] recovering → ⊥
unfolding has_recovery
not_carried h = h.no_recovery _ _ (Sym.error here) has_recovery.there

pub answer_beside_recovery : (text : List ℕ) (answer : TextAnswer) →
    IsRightAnswerTo asked recovering text (WrittenAnswer.to_text answer) → ⊥
answer_beside_recovery text answer h =
    not_carried (parsed_where_answered asked recovering text answer h).faultless.lowerable.carried

-- the same behind an extern block: `!` is no longer the first
abbrev block : ExternBlock
block = record { span = here; associated_types = []; enum_token = None }

abbrev with_block : Grammar
with_block = grammar (WrittenItem.extern_token block ∷ public_rule "S" (alt (lit "a" ∷ []) ∷ alt (Sym.error here ∷ []) ∷ []) ∷ [])

pub extern_block_told : (text : List ℕ) → IsRightAnswerTo asked with_block text (WrittenAnswer.refused Refusal.extern_block)
extern_block_told text = IsRightAnswerTo.fault Refusal.extern_block (IsListedFault.extern_block (block, inl refl))

no_extern_there : HasNoExtern with_block → ⊥
no_extern_there h = h (WrittenItem.extern_token block) (inl refl)

pub recovery_behind_extern : (text : List ℕ) → IsRightAnswerTo asked with_block text (WrittenAnswer.refused Refusal.recovery) → ⊥
recovery_behind_extern text (IsRightAnswerTo.fault f h) = go h
  where
    go : IsListedFault asked with_block Refusal.recovery → ⊥
    go (IsListedFault.recovery none some) = no_extern_there none

pub answer_behind_extern : (text : List ℕ) (answer : TextAnswer) →
    IsRightAnswerTo asked with_block text (WrittenAnswer.to_text answer) → ⊥
answer_behind_extern text answer h =
    no_extern_there (parsed_where_answered asked with_block text answer h).faultless.lowerable.carried.no_extern
