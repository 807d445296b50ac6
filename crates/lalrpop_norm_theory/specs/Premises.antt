-- What passes rest on: how a grammar that was read looks, and what the passes before have made of it.
use Rattle.std.specs.Prelude.{ℕ, ◌≡◌, ◌≢◌, ◌≤◌, Bool, true, false, ◌&&◌, ◌||◌, ◌==◌, List, []}
use Rattle.std.specs.Prelude.{◌∷◌, ◌++◌, Some, None}
use Rattle.std.specs.Prelude.{replicate}
use Rattle.std.specs.Char.{is_ascii_alphabetic, is_ascii_alphanumeric}
use Rattle.std.specs.List.{list_all}
use Rattle.lalrpop_grammar_symbols.specs.Symbols.{Text, Terminal, Syms, Sym, syms, WrittenSymbol}
use Rattle.lalrpop_grammar_symbols.specs.Subsymbols.{subsymbols, subsymbols_of}
use Rattle.lalrpop_grammar.specs.WrittenGrammar.{Condition, Action, Alternative, Rule, Grammar, WrittenEntry, WrittenItem, Ty, Tys}
use Rattle.lalrpop_grammar_language.specs.Among.{Among}
use Rattle.lalrpop_grammar_language.specs.Enabled.{EnabledGrammar, EnabledRule, Choice, IsRule, has_text, at_places}
use Rattle.lalrpop_grammar_language.specs.Levels.{has_levels}
use Rattle.lalrpop_norm_theory.specs.Between.{with_origins}

-- symbols of a grammar

-- the symbols that stand in a type, at any depth
abbrev mutual
  pub symbols_of_type : Ty → List WrittenSymbol
  symbols_of_type (Ty.tuple ts) = symbols_of_types ts
  symbols_of_type (Ty.nominal path ts) = symbols_of_types ts
  symbols_of_type (Ty.id n) = []
  symbols_of_type (Ty.of_symbol x) = subsymbols x
  symbols_of_type (Ty.ref lifetime mutable t) = symbols_of_type t
  symbols_of_type (Ty.opaque text) = []

  pub symbols_of_types : Tys → List WrittenSymbol
  symbols_of_types Tys.none = []
  symbols_of_types (Tys.more t ts) = symbols_of_type t ++ symbols_of_types ts

-- the symbol stands in an alternative of a rule, at any depth
pub record IsSymbolOf (g : EnabledGrammar) (r : EnabledRule) (c : Choice) (x : WrittenSymbol) : Type 0 where
  pub rule : Among g.rules r
  pub choice : Among r.choices c
  pub symbol : Among (subsymbols_of (syms c.expr)) x

-- the symbol stands in the type that a rule declares, at any depth
pub record IsTypeSymbolOf (g : EnabledGrammar) (r : EnabledRule) (x : WrittenSymbol) : Type 0 where
  pub rule : Among g.rules r
  pub written : Ty
  pub declared : r.declared ≡ Some written
  pub symbol : Among (symbols_of_type written) x

-- a grammar that was read

-- an ASCII letter or an underscore, then such and digits
abbrev pub is_identifier : Text → Bool
is_identifier [] = false
is_identifier (c ∷ cs) = (is_ascii_alphabetic c || c == 95) && list_all (λ d. is_ascii_alphanumeric d || d == 95) cs

-- a form of symbol that has a spelling, with names for names
abbrev pub IsReadForm : WrittenSymbol → Type 0
IsReadForm (Sym.ambiguous_id p n) = is_identifier n ≡ true
IsReadForm (Sym.nonterminal p n) = ⊥
IsReadForm (Sym.terminal p (Terminal.quoted t)) = Unit {0}
IsReadForm (Sym.terminal p (Terminal.regex t)) = Unit {0}
IsReadForm (Sym.terminal p (Terminal.bare n)) = ⊥
IsReadForm (Sym.terminal p Terminal.error) = ⊥
IsReadForm (Sym.macro p n args) = is_identifier n ≡ true
IsReadForm (Sym.name p mutable n x) = is_identifier n ≡ true
IsReadForm (Sym.expr p xs) = Unit {0}
IsReadForm (Sym.repeat p op x) = Unit {0}
IsReadForm (Sym.choose p x) = Unit {0}
IsReadForm (Sym.lookahead p) = Unit {0}
IsReadForm (Sym.lookbehind p) = Unit {0}
IsReadForm (Sym.error p) = Unit {0}

-- user code, or none
abbrev pub IsReadAction : Action → Type 0
IsReadAction Action.default = Unit {0}
IsReadAction (Action.user text) = Unit {0}
IsReadAction (Action.fallible text) = Unit {0}
IsReadAction Action.lookahead = ⊥
IsReadAction Action.lookbehind = ⊥

pub record IsReadAlternative (a : Alternative) : Type 0 where
  pub symbols : (x : WrittenSymbol) → Among (subsymbols_of (syms a.expr)) x → IsReadForm x
  pub condition : (c : Condition) → a.condition ≡ Some c → is_identifier c.parameter ≡ true
  pub action : IsReadAction a.action

-- each alternative tells the place at which it stands
pub record IsReadRule (r : Rule) : Type 0 where
  pub name : is_identifier r.name ≡ true
  pub parameters : (n : Text) → Among r.parameters n → is_identifier n ≡ true
  pub types : (t : Ty) → r.declared ≡ Some t → (x : WrittenSymbol) → Among (symbols_of_type t) x → IsReadForm x
  pub alternatives : (a : Alternative) → Among r.alternatives a → IsReadAlternative a
  pub places : with_origins r.alternatives ≡ at_places r.name 0 r.alternatives

-- what a match block maps to is a literal or a name
abbrev pub IsReadEntry : WrittenEntry → Type 0
IsReadEntry (WrittenEntry.catch_all p) = Unit {0}
IsReadEntry (WrittenEntry.unmapped l p) = Unit {0}
IsReadEntry (WrittenEntry.skip l p) = Unit {0}
IsReadEntry (WrittenEntry.mapped l (Terminal.quoted t) p) = Unit {0}
IsReadEntry (WrittenEntry.mapped l (Terminal.regex t) p) = Unit {0}
IsReadEntry (WrittenEntry.mapped l (Terminal.bare n) p) = is_identifier n ≡ true
IsReadEntry (WrittenEntry.mapped l Terminal.error p) = ⊥

-- no tokenizer has been made yet
abbrev pub IsReadItem : WrittenItem → Type 0
IsReadItem (WrittenItem.nonterminal r) = IsReadRule r
IsReadItem (WrittenItem.match_token groups p) =
    (group : List WrittenEntry) → Among groups group → (e : WrittenEntry) → Among group e → IsReadEntry e
IsReadItem (WrittenItem.extern_token block) = Unit {0}
IsReadItem (WrittenItem.intern_token entries) = ⊥
IsReadItem (WrittenItem.import text) = Unit {0}

-- A grammar as it is read, with any prefix of two or more underscores.
pub record IsReadGrammar (g : Grammar) : Type 0 where
  pub underscores : ℕ
  pub two : 2 ≤ underscores
  pub prefix_is : g.prefix ≡ replicate underscores 95
  pub items : (i : WrittenItem) → Among g.items i → IsReadItem i

-- no block says where tokens come from
abbrev pub HasNoExtern : Grammar → Type 0
HasNoExtern g = (i : WrittenItem) → Among g.items i → IsNoExtern i
  where
    IsNoExtern : WrittenItem → Type 0
    IsNoExtern (WrittenItem.extern_token block) = ⊥
    IsNoExtern (WrittenItem.nonterminal r) = Unit {0}
    IsNoExtern (WrittenItem.match_token groups p) = Unit {0}
    IsNoExtern (WrittenItem.intern_token entries) = Unit {0}
    IsNoExtern (WrittenItem.import text) = Unit {0}

abbrev pub IsNoRecovery : WrittenSymbol → Type 0
IsNoRecovery (Sym.error p) = ⊥
IsNoRecovery (Sym.terminal p Terminal.error) = ⊥
IsNoRecovery (Sym.terminal p (Terminal.quoted t)) = Unit {0}
IsNoRecovery (Sym.terminal p (Terminal.regex t)) = Unit {0}
IsNoRecovery (Sym.terminal p (Terminal.bare n)) = Unit {0}
IsNoRecovery (Sym.ambiguous_id p n) = Unit {0}
IsNoRecovery (Sym.nonterminal p n) = Unit {0}
IsNoRecovery (Sym.macro p n args) = Unit {0}
IsNoRecovery (Sym.name p mutable n x) = Unit {0}
IsNoRecovery (Sym.expr p xs) = Unit {0}
IsNoRecovery (Sym.repeat p op x) = Unit {0}
IsNoRecovery (Sym.choose p x) = Unit {0}
IsNoRecovery (Sym.lookahead p) = Unit {0}
IsNoRecovery (Sym.lookbehind p) = Unit {0}

-- no alternative has the symbol of error recovery, at any depth
abbrev pub HasNoRecovery : EnabledGrammar → Type 0
HasNoRecovery g = (r : EnabledRule) (c : Choice) (x : WrittenSymbol) → IsSymbolOf g r c x → IsNoRecovery x

-- a grammar whose names are resolved

abbrev pub has_arguments : {S : Type 0} → Syms S → Bool
has_arguments Syms.none = false
has_arguments (Syms.more x xs) = true

-- a macro of that name, which no parameter of the rule hides
pub record IsMacroFor (g : EnabledGrammar) (r : EnabledRule) (n : Text) : Type 0 where
  pub macro : EnabledRule
  pub is_rule : IsRule g n macro
  pub has_parameters : macro.parameters ≢ []
  pub not_hidden : has_text n r.parameters ≡ false

-- a name that isn't resolved is a parameter; a nonterminal is a rule that is no macro; a call has arguments and a macro
abbrev pub IsResolvedIn : EnabledGrammar → EnabledRule → WrittenSymbol → Type 0
IsResolvedIn g r (Sym.ambiguous_id p n) = has_text n r.parameters ≡ true
IsResolvedIn g r (Sym.nonterminal p n) = (s : EnabledRule) × IsRule g n s × (s.parameters ≡ [])
IsResolvedIn g r (Sym.terminal p (Terminal.bare n)) = has_text n g.bares ≡ true
IsResolvedIn g r (Sym.terminal p (Terminal.quoted t)) = Unit {0}
IsResolvedIn g r (Sym.terminal p (Terminal.regex t)) = Unit {0}
IsResolvedIn g r (Sym.terminal p Terminal.error) = Unit {0}
IsResolvedIn g r (Sym.macro p n args) = IsMacroFor g r n × (has_arguments args ≡ true)
IsResolvedIn g r (Sym.name p mutable n x) = Unit {0}
IsResolvedIn g r (Sym.expr p xs) = Unit {0}
IsResolvedIn g r (Sym.repeat p op x) = Unit {0}
IsResolvedIn g r (Sym.choose p x) = Unit {0}
IsResolvedIn g r (Sym.lookahead p) = Unit {0}
IsResolvedIn g r (Sym.lookbehind p) = Unit {0}
IsResolvedIn g r (Sym.error p) = Unit {0}

-- no text stands twice
abbrev pub AreDifferent : List Text → Type 0
AreDifferent [] = Unit {0}
AreDifferent (n ∷ ns) = (has_text n ns ≡ false) × AreDifferent ns

-- Each name is resolved, in alternatives, conditions and declared types; no two rules share a name, and no two parameters of
-- a rule.
pub record IsResolved (g : EnabledGrammar) : Type 0 where
  pub rules : (r : EnabledRule) → Among g.rules r → IsRule g r.name r
  pub parameters : (r : EnabledRule) → Among g.rules r → AreDifferent r.parameters
  pub symbols : (r : EnabledRule) (c : Choice) (x : WrittenSymbol) → IsSymbolOf g r c x → IsResolvedIn g r x
  pub types : (r : EnabledRule) (x : WrittenSymbol) → IsTypeSymbolOf g r x → IsResolvedIn g r x
  pub conditions : (r : EnabledRule) (c : Choice) (t : Condition) → Among g.rules r → Among r.choices c → c.condition ≡ Some t
      → has_text t.parameter r.parameters ≡ true

-- no rule has levels
abbrev pub HasNoLevels : EnabledGrammar → Type 0
HasNoLevels g = (r : EnabledRule) → Among g.rules r → has_levels r ≡ false

-- a grammar whose macros are expanded

-- a terminal or a rule, maybe named or chosen
abbrev pub IsExpandedSymbol : EnabledGrammar → WrittenSymbol → Type 0
IsExpandedSymbol g (Sym.terminal p (Terminal.quoted t)) = Unit {0}
IsExpandedSymbol g (Sym.terminal p (Terminal.regex t)) = Unit {0}
IsExpandedSymbol g (Sym.terminal p (Terminal.bare n)) = has_text n g.bares ≡ true
IsExpandedSymbol g (Sym.terminal p Terminal.error) = ⊥
IsExpandedSymbol g (Sym.nonterminal p n) = (r : EnabledRule) × IsRule g n r
IsExpandedSymbol g (Sym.choose p x) = IsExpandedSymbol g x
IsExpandedSymbol g (Sym.name p mutable n x) = IsExpandedSymbol g x
IsExpandedSymbol g (Sym.ambiguous_id p n) = ⊥
IsExpandedSymbol g (Sym.macro p n args) = ⊥
IsExpandedSymbol g (Sym.expr p xs) = ⊥
IsExpandedSymbol g (Sym.repeat p op x) = ⊥
IsExpandedSymbol g (Sym.lookahead p) = ⊥
IsExpandedSymbol g (Sym.lookbehind p) = ⊥
IsExpandedSymbol g (Sym.error p) = ⊥

pub record IsExpandedChoice (g : EnabledGrammar) (c : Choice) : Type 0 where
  pub unconditional : c.condition ≡ None
  pub symbols : (x : WrittenSymbol) → Among c.expr x → IsExpandedSymbol g x

-- No macro, level, condition, repeat, group or lookaround is left.
pub record IsExpanded (g : EnabledGrammar) : Type 0 where
  pub rules : (r : EnabledRule) → Among g.rules r → IsRule g r.name r
  pub no_macros : (r : EnabledRule) → Among g.rules r → r.parameters ≡ []
  pub no_levels : HasNoLevels g
  pub choices : (r : EnabledRule) (c : Choice) → Among g.rules r → Among r.choices c → IsExpandedChoice g c
