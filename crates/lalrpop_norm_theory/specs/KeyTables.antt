-- The finished table of keys: all that stands in rules and in instances that are made, and nothing else.
use Rattle.std.specs.Prelude.{◌≡◌, ◌⊎◌, true, List, [], ◌∷◌, ◌++◌, None}
use Rattle.lalrpop_grammar_symbols.specs.Symbols.{Text, Terminal, Op, Closed, Closeds}
use Rattle.lalrpop_grammar.specs.WrittenGrammar.{Origin}
use Rattle.lalrpop_grammar_language.specs.Among.{Among}
use Rattle.lalrpop_grammar_language.specs.Enabled.{EnabledGrammar, EnabledRule, IsRule}
use Rattle.lalrpop_grammar_language.specs.Expansion.{Nonterminal, RightSide, grammar_symbol, Produces, IsRoot}
use Rattle.lalrpop_norm_theory.specs.KeyRules.{IsKey, IsKeyRule}

-- The keys that stand in a symbol, through groups, repeats, names and choices; `X*` is made of `X+`. Those in the arguments of
-- a call don't.
abbrev mutual
  pub keys_in : Closed → List Closed
  keys_in (Closed.terminal (Terminal.quoted t)) = []
  keys_in (Closed.terminal (Terminal.regex t)) = []
  keys_in (Closed.terminal (Terminal.bare n)) = []
  keys_in (Closed.terminal Terminal.error) = Closed.terminal Terminal.error ∷ []
  keys_in (Closed.call n args level) = Closed.call n args level ∷ []
  keys_in (Closed.repeat Op.plus x) = Closed.repeat Op.plus x ∷ keys_in x
  keys_in (Closed.repeat Op.star x) = Closed.repeat Op.star x ∷ Closed.repeat Op.plus x ∷ keys_in x
  keys_in (Closed.repeat Op.question x) = Closed.repeat Op.question x ∷ keys_in x
  keys_in (Closed.group xs) = Closed.group xs ∷ keys_in_all xs
  keys_in (Closed.choose x) = keys_in x
  keys_in (Closed.name m n x) = keys_in x
  keys_in Closed.lookahead = Closed.lookahead ∷ []
  keys_in Closed.lookbehind = Closed.lookbehind ∷ []
  keys_in Closed.faulty = Closed.faulty ∷ []

  pub keys_in_all : Closeds → List Closed
  keys_in_all Closeds.none = []
  keys_in_all (Closeds.more x xs) = keys_in x ++ keys_in_all xs

abbrev pub IsNoCall : Closed → Type 0
IsNoCall (Closed.call n args level) = ⊥
IsNoCall (Closed.terminal t) = Unit {0}
IsNoCall (Closed.repeat op x) = Unit {0}
IsNoCall (Closed.group xs) = Unit {0}
IsNoCall (Closed.choose x) = Unit {0}
IsNoCall (Closed.name m n x) = Unit {0}
IsNoCall Closed.lookahead = Unit {0}
IsNoCall Closed.lookbehind = Unit {0}
IsNoCall Closed.faulty = Unit {0}

-- the key stands in an alternative of a rule or an instance
pub record KeyStandsIn (g : EnabledGrammar) (y z : Closed) : Type 0 where
  pub origin : Origin
  pub side : RightSide
  pub symbol : Closed
  pub produced : Produces g (Nonterminal.closed y) origin side
  pub in_side : Among side (grammar_symbol symbol)
  pub stands : Among (keys_in symbol) z

-- a rule that is no macro, in a grammar without levels
pub record IsPlainKey (g : EnabledGrammar) (z : Closed) : Type 0 where
  pub name : Text
  pub rule : EnabledRule
  pub is_rule : IsRule g name rule
  pub no_macro : rule.parameters ≡ []
  pub key_is : z ≡ Closed.call name Closeds.none None

-- what is no call and stands in a rule or in a walked call
pub record IsMetKey (g : EnabledGrammar) (calls : List Closed) (z : Closed) : Type 0 where
  pub no_call : IsNoCall z
  pub holder : Closed
  pub walked : IsRoot g (Nonterminal.closed holder) ⊎ Among calls holder
  pub stands : KeyStandsIn g holder z

-- The table has each rule that is no macro, each call, and all that stands in these; and nothing else.
pub record IsKeyTable (g : EnabledGrammar) (calls keys : List Closed) : Type 0 where
  pub plain : (n : Text) (r : EnabledRule) → IsRule g n r → r.parameters ≡ [] → Among keys (Closed.call n Closeds.none None)
  pub calls_too : (x : Closed) → Among calls x → Among keys x
  pub complete : (y z : Closed) → IsRoot g (Nonterminal.closed y) ⊎ Among calls y → KeyStandsIn g y z → Among keys z
  pub no_other : (z : Closed) → Among keys z → IsPlainKey g z ⊎ (Among calls z ⊎ IsMetKey g calls z)

-- The rules that the finished table asks for, under names.
pub record AreKeyRules (g h : EnabledGrammar) (f : Closed → Text) (keys : List Closed) : Type 0 where
  pub bares : h.bares ≡ g.bares
  pub rules : (x : Closed) → Among keys x → (q : EnabledRule) × IsRule h (f x) q × IsKeyRule g f x q
  pub no_other : (n : Text) (q : EnabledRule) → IsRule h n q → (x : Closed) × Among keys x × (n ≡ f x)
  pub own : (n : Text) (r : EnabledRule) → IsRule g n r → r.parameters ≡ [] → f (Closed.call n Closeds.none None) ≡ n
  pub public : (n : Text) (r q : EnabledRule) → IsRule g n r → r.parameters ≡ [] → IsRule h n q → q.public ≡ r.public
  pub private : (x : Closed) (q : EnabledRule) → Among keys x → IsRule h (f x) q → q.public ≡ true →
      (n : Text) × (r : EnabledRule) × (x ≡ Closed.call n Closeds.none None) × IsRule g n r × (r.parameters ≡ [])
  pub keys_only : (x : Closed) → Among keys x → IsKey x
  pub apart : (x y : Closed) → Among keys x → Among keys y → f x ≡ f y → x ≡ y
