-- The rules of keys as they are finished, one for each key in order, and the grammar with these rules.
use Rattle.std.specs.Prelude.{ℕ, ◌+◌, ◌≡◌, Bool, List, [], ◌∷◌, length, Option, None}
use Rattle.lalrpop_grammar_symbols.specs.Symbols.{Text, TextSpan, Op, WrittenSymbol, Closed, Closeds, closed_list}
use Rattle.lalrpop_grammar.specs.WrittenGrammar.{Alternative, Grammar, Rule, Ty, rules_of}
use Rattle.lalrpop_grammar_language.specs.Among.{Among}
use Rattle.lalrpop_grammar_language.specs.Enabled.{EnabledGrammar, EnabledRule, IsRule, choice_of}
use Rattle.lalrpop_grammar_language.specs.Closing.{right_side}
use Rattle.lalrpop_grammar_language.specs.Conditions.{Holds}
use Rattle.lalrpop_grammar_language.specs.Admitting.{argument_list, bind}
use Rattle.lalrpop_norm_theory.specs.Between.{grammar_between, rule_between}
use Rattle.lalrpop_norm_theory.specs.Types.{type_scope}
use Rattle.lalrpop_norm_theory.specs.KeyRules.{IsWrittenFor}
use Rattle.lalrpop_norm_theory.specs.KeyTypes.{IsPutDeclaration, repeat_ty}
use Rattle.lalrpop_norm_macros.specs.AddedRules.{IsAddedRule}
use Rattle.lalrpop_norm_macros.specs.KeyedSymbols.{AreWrittenByName}
use Rattle.lalrpop_norm_macros.specs.InstanceRules.{IsInstanceBy, IsInstanceRule}

-- one rule for each key, from a place on
abbrev pub AreRulesFrom : (ℕ → Closed → Rule → Type 0) → ℕ → List Closed → List Rule → Type 0
AreRulesFrom is k [] rs = rs ≡ []
AreRulesFrom is k (x ∷ xs) rs = (r : Rule) × (rest : List Rule) × (rs ≡ r ∷ rest) × is k x r × AreRulesFrom is (k + 1) xs rest

-- an alternative in an instance of the rule
abbrev pub BecomesInInstance : EnabledGrammar → (Closed → Text) → List Closed → EnabledRule → Closeds → Alternative
    → Alternative → Type 0
BecomesInInstance g f keys r args a made =
    IsInstanceBy (AreWrittenByName g.bares f keys) (argument_list g.spelled args)
    (right_side g r (bind r args) (choice_of (a.origin, a), None))
    a made

-- the type of a repeat of the symbol
abbrev pub IsRepeatType : List Text → (Closed → Text) → Op → Closed → Ty → Type 0
IsRepeatType bares f op x z = (v : WrittenSymbol) × (z ≡ repeat_ty op v) × IsWrittenFor bares f x v

-- the called rule, as it is written
pub record IsCalledBy (g : EnabledGrammar) (rs : List Rule) (n : Text) (args : Closeds) (level : Option ℕ) (written : Rule) : Type 0
  where
    pub among : Among rs written
    pub is_rule : IsRule g n (rule_between written)
    pub arguments : length (closed_list args) ≡ length written.parameters
    pub flat : level ≡ None

-- The finished rule of a key of the grammar whose rules these are, written there where it isn't a call's.
abbrev pub IsFinishedRule : EnabledGrammar → List Rule → (Closed → Text) → List Closed → Closed → TextSpan → Rule → Type 0
IsFinishedRule g rs f keys (Closed.call n args level) p made =
    (written : Rule) × IsCalledBy g rs n args level written
    × IsInstanceRule (IsPutDeclaration g.bares f keys (type_scope g (rule_between written) args))
    (Holds g (bind (rule_between written) args)) (BecomesInInstance g f keys (rule_between written) args) args
    (f (Closed.call n args level)) written made
IsFinishedRule g rs f keys (Closed.repeat op x) p made =
    IsAddedRule (AreWrittenByName g.bares f keys) (IsRepeatType g.bares f) (Closed.repeat op x) (f (Closed.repeat op x)) p made
IsFinishedRule g rs f keys (Closed.group xs) p made =
    IsAddedRule (AreWrittenByName g.bares f keys) (IsRepeatType g.bares f) (Closed.group xs) (f (Closed.group xs)) p made
IsFinishedRule g rs f keys Closed.lookahead p made =
    IsAddedRule (AreWrittenByName g.bares f keys) (IsRepeatType g.bares f) Closed.lookahead (f Closed.lookahead) p made
IsFinishedRule g rs f keys Closed.lookbehind p made =
    IsAddedRule (AreWrittenByName g.bares f keys) (IsRepeatType g.bares f) Closed.lookbehind (f Closed.lookbehind) p made
IsFinishedRule g rs f keys (Closed.terminal t) p made = ⊥
IsFinishedRule g rs f keys (Closed.choose x) p made = ⊥
IsFinishedRule g rs f keys (Closed.name m n x) p made = ⊥
IsFinishedRule g rs f keys Closed.faulty p made = ⊥

-- One finished rule for each key, in order, where these are the places at which they are written.
abbrev pub AreFinishedRules : (Text → Text → Option Bool) → Grammar → (Closed → Text) → (ℕ → TextSpan)
    → List Closed → List Rule → Type 0
AreFinishedRules finds w f places keys made =
    AreRulesFrom (λ i x r. IsFinishedRule (grammar_between finds w) (rules_of w.items) f keys x (places i) r) 0 keys made
