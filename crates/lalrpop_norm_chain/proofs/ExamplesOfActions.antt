-- Computed examples of what productions of an expansion do, and near misses.
use Prim.Native.String.{String}
use Rattle.std.proofs.Common.{◌≡◌, ℕ, List, [], ◌∷◌, refl, ap, sym, ◌∙◌, subst, inl, inr, arith}
use Rattle.std.specs.Prelude.{None, codes}
use Rattle.lalrpop_grammar_symbols.specs.Symbols.{Closed, Closeds, Op, WrittenSymbol}
use Rattle.lalrpop_grammar.specs.WrittenGrammar.{Action, Alternative, Origin}
use Rattle.lalrpop_grammar_language.specs.Among.{Among}
use Rattle.lalrpop_grammar_language.specs.Enabled.{Choice, EnabledGrammar, EnabledRule, enabled_grammar}
use Rattle.lalrpop_grammar_language.specs.Expansion.{Nonterminal}
use Rattle.lalrpop_grammar_language.proofs.WrittenTreeLemmas.{finds, grammar, here, lit, rule_of}
use Rattle.lalrpop_norm_chain.specs.Actions.{ChoiceDoes, IsWrittenAction}

abbrev acting : Action → List WrittenSymbol → Alternative
acting a xs = record { span = here; expr = xs; condition = None; action = a; attributes = []; origin = Origin.start }

abbrev user : String → Action
user t = Action.user (codes t)

abbrev fallible : String → Action
fallible t = Action.fallible (codes t)

-- S = "a" => f | "b" =>? g | "c"
abbrev three : EnabledGrammar
three = enabled_grammar finds [] (grammar (rule_of "S" (acting (user "f") (lit "a" ∷ []) ∷ acting (fallible "g") (lit "b" ∷ [])
    ∷ acting Action.default (lit "c" ∷ []) ∷ []) ∷ []))

abbrev s : Nonterminal
s = Nonterminal.closed (Closed.call (codes "S") Closeds.none None)

abbrev at : ℕ → Origin
at i = Origin.alternative (codes "S") [] i

first_does : ChoiceDoes three s (at 0) (user "f")
first_does = record {
  rule = _;
  choice = _;
  rule_there = inl refl;
  name_is = refl;
  choice_there = inl refl;
  at = refl;
  action_is = refl;
}

-- code that may fail stays such
second_does : ChoiceDoes three s (at 1) (fallible "g")
second_does = record {
  rule = _;
  choice = _;
  rule_there = inl refl;
  name_is = refl;
  choice_there = inr (inl refl);
  at = refl;
  action_is = refl;
}

third_does : ChoiceDoes three s (at 2) Action.default
third_does = record {
  rule = _;
  choice = _;
  rule_there = inl refl;
  name_is = refl;
  choice_there = inr (inr (inl refl));
  at = refl;
  action_is = refl;
}

-- an instance does what its macro's alternative does
instance_does : ChoiceDoes three s (Origin.alternative (codes "S") [] 1) (fallible "g")
instance_does = second_does

-- near misses

abbrev place_of : Origin → ℕ
place_of (Origin.alternative n args place) = place
place_of _ = 0

abbrev code_byte : Action → ℕ
code_byte (Action.user (b ∷ t)) = b
code_byte (Action.fallible (b ∷ t)) = b
code_byte _ = 0

-- what an alternative of S does is what is written at its place
abbrev choices : EnabledGrammar → List Choice
choices g = first g.rules
  where
    first : List EnabledRule → List Choice
    first [] = []
    first (r ∷ rs) = r.choices

one_of_three : (i : ℕ) (a : Action) → IsWrittenAction three (codes "S") i a
    → (c : Choice) × Among (choices three) c × (c.origin ≡ at i) × (c.action ≡ a)
one_of_three i a h = go h.rule_there
  where
    go : Among three.rules h.rule → (c : Choice) × Among (choices three) c × (c.origin ≡ at i) × (c.action ≡ a)
    go (inl e) = (h.choice, subst (λ (r : EnabledRule). Among r.choices h.choice) (sym e) h.choice_there, h.at, h.action_is)
    go (inr m) = absurd m

-- the code of another alternative
other_code_refused : ChoiceDoes three s (at 0) (user "g") → ⊥
other_code_refused h = let u = one_of_three 0 (user "g") h in go u.0 u.2 u.3 u.1
  where
    go : (c : Choice) → c.origin ≡ at 0 → c.action ≡ user "g" → Among (choices three) c → ⊥
    go c o a (inl e) =
        let byte : ◌≡◌ {A = ℕ} 102 103 = ap code_byte (ap (λ (d : Choice). d.action) e ∙ a) in omega (arith, byte)
    go c o a (inr (inl e)) =
        let place : ◌≡◌ {A = ℕ} 1 0 = ap place_of (ap (λ (d : Choice). d.origin) e ∙ o) in omega (arith, place)
    go c o a (inr (inr (inl e))) =
        let place : ◌≡◌ {A = ℕ} 2 0 = ap place_of (ap (λ (d : Choice). d.origin) e ∙ o) in omega (arith, place)
    go c o a (inr (inr (inr m))) = absurd m

-- code that may fail as code that can't
unfailing_refused : ChoiceDoes three s (at 1) (user "g") → ⊥
unfailing_refused h = let u = one_of_three 1 (user "g") h in go u.0 u.2 u.3 u.1
  where
    go : (c : Choice) → c.origin ≡ at 1 → c.action ≡ user "g" → Among (choices three) c → ⊥
    go c o a (inl e) =
        let place : ◌≡◌ {A = ℕ} 0 1 = ap place_of (ap (λ (d : Choice). d.origin) e ∙ o) in omega (arith, place)
    go c o a (inr (inl e)) = let wrong : fallible "g" ≡ user "g" = ap (λ (d : Choice). d.action) e ∙ a in cc
    go c o a (inr (inr (inl e))) =
        let place : ◌≡◌ {A = ℕ} 2 1 = ap place_of (ap (λ (d : Choice). d.origin) e ∙ o) in omega (arith, place)
    go c o a (inr (inr (inr m))) = absurd m

-- code where none is written
new_code_refused : ChoiceDoes three s (at 2) (user "f") → ⊥
new_code_refused h = let u = one_of_three 2 (user "f") h in go u.0 u.2 u.3 u.1
  where
    go : (c : Choice) → c.origin ≡ at 2 → c.action ≡ user "f" → Among (choices three) c → ⊥
    go c o a (inl e) =
        let place : ◌≡◌ {A = ℕ} 0 2 = ap place_of (ap (λ (d : Choice). d.origin) e ∙ o) in omega (arith, place)
    go c o a (inr (inl e)) =
        let place : ◌≡◌ {A = ℕ} 1 2 = ap place_of (ap (λ (d : Choice). d.origin) e ∙ o) in omega (arith, place)
    go c o a (inr (inr (inl e))) = let wrong : Action.default ≡ user "f" = ap (λ (d : Choice). d.action) e ∙ a in cc
    go c o a (inr (inr (inr m))) = absurd m

-- what passes add

pass_does : ChoiceDoes three s Origin.pass_down Action.default
pass_does = refl

pass_with_code_refused : ChoiceDoes three s Origin.pass_down (user "f") → ⊥
pass_with_code_refused h = cc

start_does : ChoiceDoes three (Nonterminal.start (codes "S")) Origin.start Action.default
start_does = refl

abbrev any_x : Closed → Nonterminal
any_x x = Nonterminal.closed (Closed.repeat Op.star x)

repeat_with_code_refused : (x : Closed) → ChoiceDoes three (any_x x) Origin.star_none (user "vec![]") → ⊥
repeat_with_code_refused x h = cc

-- `@L` is a lookahead, and no user code
lookahead_does : ChoiceDoes three (Nonterminal.closed Closed.lookahead) Origin.look Action.lookahead
lookahead_does = refl

lookbehind_refused : ChoiceDoes three (Nonterminal.closed Closed.lookahead) Origin.look Action.lookbehind → ⊥
lookbehind_refused h = cc

default_lookahead_refused : ChoiceDoes three (Nonterminal.closed Closed.lookahead) Origin.look Action.default → ⊥
default_lookahead_refused h = cc
