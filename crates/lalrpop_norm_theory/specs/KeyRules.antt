-- A grammar in which each key, that is a call, a repeat, a group or a lookaround, has a rule of its own.
use Rattle.std.specs.Prelude.{◌≡◌, ◌⊎◌, ◌↔◌, true, false, List, [], ◌∷◌, length, Option, Some, None}
use Rattle.lalrpop_grammar_symbols.specs.Symbols.{Text, Terminal, WrittenSymbol, Sym, Op, Closed, Closeds, closed_list}
use Rattle.lalrpop_grammar.specs.WrittenGrammar.{Action, Origin}
use Rattle.lalrpop_grammar_language.specs.Among.{Among}
use Rattle.lalrpop_grammar_language.specs.Enabled.{EnabledGrammar, EnabledRule, Choice, IsRule, has_text}
use Rattle.lalrpop_grammar_language.specs.Levels.{Rank, ranked_choices, has_levels}
use Rattle.lalrpop_grammar_language.specs.Closing.{right_side}
use Rattle.lalrpop_grammar_language.specs.Conditions.{Holds}
use Rattle.lalrpop_grammar_language.specs.Admitting.{bind, argument_list}
use Rattle.lalrpop_grammar_language.specs.Expansion.{GrammarSymbol, Nonterminal, RightSide, Produces, InExpansion, origin_with}
use Rattle.lalrpop_norm_theory.specs.Inlined.{IsInlined}

-- the symbol has a rule of its own
abbrev pub IsKey : Closed → Type 0
IsKey (Closed.terminal t) = ⊥
IsKey (Closed.call n args level) = Unit {0}
IsKey (Closed.repeat op x) = Unit {0}
IsKey (Closed.group xs) = Unit {0}
IsKey (Closed.choose x) = ⊥
IsKey (Closed.name m n x) = ⊥
IsKey Closed.lookahead = Unit {0}
IsKey Closed.lookbehind = Unit {0}
IsKey Closed.faulty = ⊥

-- a bare name is a mapped one
abbrev pub IsMappedTerminal : List Text → Terminal → Type 0
IsMappedTerminal bares (Terminal.quoted t) = Unit {0}
IsMappedTerminal bares (Terminal.regex t) = Unit {0}
IsMappedTerminal bares (Terminal.bare n) = has_text n bares ≡ true
IsMappedTerminal bares Terminal.error = Unit {0}

-- The written symbol stands for the closed one: names and choices are kept, a key stands by its name. Spans are free.
abbrev pub IsWrittenFor : List Text → (Closed → Text) → Closed → WrittenSymbol → Type 0
IsWrittenFor bares f x (Sym.terminal p t) = (x ≡ Closed.terminal t) × IsMappedTerminal bares t
IsWrittenFor bares f x (Sym.nonterminal p n) = (n ≡ f x) × IsKey x
IsWrittenFor bares f x (Sym.choose p w) = (y : Closed) × (x ≡ Closed.choose y) × IsWrittenFor bares f y w
IsWrittenFor bares f x (Sym.name p m n w) = (y : Closed) × (x ≡ Closed.name m n y) × IsWrittenFor bares f y w
IsWrittenFor bares f x (Sym.expr p ws) = ⊥
IsWrittenFor bares f x (Sym.ambiguous_id p n) = ⊥
IsWrittenFor bares f x (Sym.macro p n args) = ⊥
IsWrittenFor bares f x (Sym.repeat p op w) = ⊥
IsWrittenFor bares f x (Sym.lookahead p) = ⊥
IsWrittenFor bares f x (Sym.lookbehind p) = ⊥
IsWrittenFor bares f x (Sym.error p) = ⊥

abbrev pub AreWrittenFor : List Text → (Closed → Text) → List Closed → List WrittenSymbol → Type 0
AreWrittenFor bares f [] [] = Unit {0}
AreWrittenFor bares f [] (w ∷ ws) = ⊥
AreWrittenFor bares f (x ∷ xs) [] = ⊥
AreWrittenFor bares f (x ∷ xs) (w ∷ ws) = IsWrittenFor bares f x w × AreWrittenFor bares f xs ws

-- what a closed symbol becomes: a key becomes a call of its rule
abbrev pub by_name : (Closed → Text) → Closed → Closed
by_name f (Closed.terminal t) = Closed.terminal t
by_name f (Closed.call n args level) = Closed.call (f (Closed.call n args level)) Closeds.none None
by_name f (Closed.repeat op x) = Closed.call (f (Closed.repeat op x)) Closeds.none None
by_name f (Closed.group xs) = Closed.call (f (Closed.group xs)) Closeds.none None
by_name f (Closed.choose x) = Closed.choose (by_name f x)
by_name f (Closed.name m n x) = Closed.name m n (by_name f x)
by_name f Closed.lookahead = Closed.call (f Closed.lookahead) Closeds.none None
by_name f Closed.lookbehind = Closed.call (f Closed.lookbehind) Closeds.none None
by_name f Closed.faulty = Closed.faulty

abbrev pub nonterminal_by_name : (Closed → Text) → Nonterminal → Nonterminal
nonterminal_by_name f (Nonterminal.start n) = Nonterminal.start n
nonterminal_by_name f (Nonterminal.closed x) = Nonterminal.closed (by_name f x)

-- an alternative of a key's rule, for these closed symbols and this choice
pub record IsChoiceFor (bares : List Text) (f : Closed → Text) (o : Origin) (xs : List Closed) (c : Choice) : Type 0 where
  pub origin : c.origin ≡ o
  pub unconditional : c.condition ≡ None
  pub symbols : AreWrittenFor bares f xs c.expr

-- the alternatives of a rule in an instance: those whose conditions hold, in order, each with its own action
abbrev pub AreInstanceChoices : EnabledGrammar → (Closed → Text) → EnabledRule → Closeds → List (Choice × Option Rank) →
    List Choice → Type 0
AreInstanceChoices g f r args [] cs = cs ≡ []
AreInstanceChoices g f r args (p ∷ ps) cs =
    (Holds g (bind r args) p.0.condition × (c : Choice) × (rest : List Choice) × (cs ≡ c ∷ rest)
    × IsChoiceFor g.bares f (origin_with (argument_list g.spelled args) p.0.origin) (right_side g r (bind r args) p) c
    × AreInstanceChoices g f r args ps rest × (c.action ≡ p.0.action))
    ⊎ ((Holds g (bind r args) p.0.condition → ⊥) × AreInstanceChoices g f r args ps cs)

abbrev pub IsOneChoice : List Text → (Closed → Text) → Action → Origin → List Closed → List Choice → Type 0
IsOneChoice bares f a o xs cs = (c : Choice) × (cs ≡ c ∷ []) × IsChoiceFor bares f o xs c × (c.action ≡ a)

abbrev pub AreTwoChoices : List Text → (Closed → Text) → Origin → List Closed → Origin → List Closed → List Choice → Type 0
AreTwoChoices bares f o xs p ys cs =
    (c : Choice) × (d : Choice) × (cs ≡ c ∷ d ∷ []) × IsChoiceFor bares f o xs c × IsChoiceFor bares f p ys d
    × (c.action ≡ Action.default) × (d.action ≡ Action.default)

-- The alternatives of a key's rule. What the pass adds has no user code.
abbrev pub AreKeyChoices : EnabledGrammar → (Closed → Text) → Closed → List Choice → Type 0
AreKeyChoices g f (Closed.terminal t) cs = ⊥
AreKeyChoices g f (Closed.call n args (Some level)) cs = ⊥
AreKeyChoices g f (Closed.call n args None) cs =
    (r : EnabledRule) × IsRule g n r × (length (closed_list args) ≡ length r.parameters)
    × AreInstanceChoices g f r args (ranked_choices r) cs
AreKeyChoices g f (Closed.repeat Op.plus x) cs =
    AreTwoChoices g.bares f Origin.plus_one (x ∷ []) Origin.plus_more (Closed.repeat Op.plus x ∷ x ∷ []) cs
AreKeyChoices g f (Closed.repeat Op.star x) cs =
    AreTwoChoices g.bares f Origin.star_none [] Origin.star_some (Closed.repeat Op.plus x ∷ []) cs
AreKeyChoices g f (Closed.repeat Op.question x) cs = AreTwoChoices g.bares f Origin.opt_some (x ∷ []) Origin.opt_none [] cs
AreKeyChoices g f (Closed.group xs) cs = IsOneChoice g.bares f Action.default Origin.group (closed_list xs) cs
AreKeyChoices g f (Closed.choose x) cs = ⊥
AreKeyChoices g f (Closed.name m n x) cs = ⊥
AreKeyChoices g f Closed.lookahead cs = IsOneChoice g.bares f Action.lookahead Origin.look [] cs
AreKeyChoices g f Closed.lookbehind cs = IsOneChoice g.bares f Action.lookbehind Origin.look [] cs
AreKeyChoices g f Closed.faulty cs = ⊥

-- the rule of a key
pub record IsKeyRule (g : EnabledGrammar) (f : Closed → Text) (x : Closed) (q : EnabledRule) : Type 0 where
  pub no_macro : q.parameters ≡ []
  pub no_levels : has_levels q ≡ false
  pub inlined : (q.inlined ≡ true) ↔ IsInlined g (Nonterminal.closed x)
  pub choices : AreKeyChoices g f x q.choices

-- A grammar without levels has become one with a rule for each key, and no other rule. Written rules keep their names, and
-- they alone may be public. A key names keys alone, and the expansion has each of them.
pub record IsMacroExpansion (g h : EnabledGrammar) (f : Closed → Text) (keys : List Closed) : Type 0 where
  pub no_levels : (n : Text) (r : EnabledRule) → IsRule g n r → has_levels r ≡ false
  pub bares : h.bares ≡ g.bares
  pub plain : (n : Text) (r : EnabledRule) → IsRule g n r → r.parameters ≡ [] →
      Among keys (Closed.call n Closeds.none None) × (f (Closed.call n Closeds.none None) ≡ n)
  pub rules : (x : Closed) → Among keys x → (q : EnabledRule) × IsRule h (f x) q × IsKeyRule g f x q
  pub no_other : (n : Text) (q : EnabledRule) → IsRule h n q → (x : Closed) × Among keys x × (n ≡ f x)
  pub public : (n : Text) (r q : EnabledRule) → IsRule g n r → r.parameters ≡ [] → IsRule h n q → q.public ≡ r.public
  pub private : (x : Closed) (q : EnabledRule) → Among keys x → IsRule h (f x) q → q.public ≡ true →
      (n : Text) × (r : EnabledRule) × (x ≡ Closed.call n Closeds.none None) × IsRule g n r × (r.parameters ≡ [])
  pub closed : (x y : Closed) (o : Origin) (side : RightSide) → Among keys x → Produces g (Nonterminal.closed x) o side →
      Among side (GrammarSymbol.nonterminal (Nonterminal.closed y)) → Among keys y
  pub reached : (x : Closed) → Among keys x → InExpansion g (Nonterminal.closed x)
  pub keys_only : (x : Closed) → Among keys x → IsKey x
  pub apart : (x y : Closed) → Among keys x → Among keys y → f x ≡ f y → x ≡ y
