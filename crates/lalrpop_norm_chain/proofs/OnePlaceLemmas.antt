-- Rules, alternatives and choices stand at one place each; for the law that normalized grammars are one.
use Rattle.std.specs.Str.{bytes_eq}
use Rattle.std.proofs.Common.{◌≡◌, ◌∙◌, ℕ, zero, suc, List, [], ◌∷◌, refl, ap, sym, subst, inl, inr, cond}
use Rattle.std.proofs.Common.{Bool, true, false, length, arith}
use Rattle.std.specs.Prelude.{Option, filter, map}
use Rattle.lalrpop_grammar_symbols.specs.Symbols.{Argument, Closed, Closeds, Op, Terminal, Text, TextSpan}
use Rattle.lalrpop_grammar.specs.WrittenGrammar.{Alternative, Attr, Grammar, Origin, Rule, rules_of}
use Rattle.lalrpop_grammar_language.specs.Among.{Among}
use Rattle.lalrpop_grammar_language.specs.Admitting.{argument_list}
use Rattle.lalrpop_grammar_language.specs.Enabled.{EnabledGrammar, EnabledRule, IsRule, at_places, enabled_grammar}
use Rattle.lalrpop_grammar_language.specs.Enabled.{enabled_rule, has_name, is_active}
use Rattle.lalrpop_grammar_language.specs.Expansion.{GrammarSymbol, InExpansion, Nonterminal, Produces, RightSide}
use Rattle.lalrpop_grammar_language.specs.Expansion.{grammar_symbol, origin_with, symbol_of_terminal}
use Rattle.lalrpop_grammar_language.proofs.ComparisonLemmas.{same_text-refl}
use Rattle.lalrpop_grammar_language.proofs.PlaceLemmas.{among_map, places_told}
use Rattle.lalrpop_norm_theory.specs.Between.{without_cfg}
use Rattle.lalrpop_norm_theory.specs.Types.{GroundType, IsGrounded, IsGroundedIn}
use Rattle.lalrpop_norm_theory.proofs.LevelLemmas.{keeps}
use Rattle.lalrpop_norm_chain.specs.OwnAttributes.{IsRuleAttributes}
use Rattle.lalrpop_norm_chain.specs.Spans.{IsRuleSpan, IsWrittenSpan, StandsByChoice}
use Rattle.lalrpop_norm_chain.proofs.ChainLemmas.{side_symbols}
use Rattle.lalrpop_norm_chain.proofs.OneActionLemmas.{one_at}

-- lists of which a test leaves one

filter_many : {A B : Type 0} (test : B → Bool) (f : A → B) (xs : List A)
    → length (filter test (map f xs)) ≡ length (filter (λ x. test (f x)) xs)
filter_many test f [] = refl
filter_many {A} {B} test f (x ∷ xs) = go (test (f x)) (filter_many test f xs)
  where
    go : (b : Bool) → length (filter test (map f xs)) ≡ length (filter (λ y. test (f y)) xs)
        → length (cond b (f x ∷ filter test (map f xs)) (filter test (map f xs)))
        ≡ length (cond b (x ∷ filter (λ y. test (f y)) xs) (filter (λ y. test (f y)) xs))
    go true ih = ap suc ih
    go false ih = ih

one_element : {A : Type 0} (xs : List A) → length xs ≡ 1 → (x : A) × (xs ≡ x ∷ [])
one_element [] e = absurd (omega (arith, e))
one_element (x ∷ []) e = (x, refl)
one_element (x ∷ y ∷ xs) e = absurd (omega (arith, e))

-- what passes a test that leaves one is that one
pub only_passing : {A : Type 0} (test : A → Bool) (xs : List A) (x : A) → filter test xs ≡ x ∷ [] → (y : A) → Among xs y
    → test y ≡ true → x ≡ y
only_passing test xs x e y i passes = go (subst (λ l. Among l y) e (keeps test xs y i passes))
  where
    go : Among (x ∷ []) y → x ≡ y
    go (inl same) = same
    go (inr j) = absurd j

-- what stands in expansions as a nonterminal

-- neither names nor choices, and of terminals that of error recovery alone
abbrev pub IsNode : Closed → Type 0
IsNode (Closed.terminal (Terminal.quoted t)) = ⊥
IsNode (Closed.terminal (Terminal.regex t)) = ⊥
IsNode (Closed.terminal (Terminal.bare n)) = ⊥
IsNode (Closed.terminal Terminal.error) = Unit {0}
IsNode (Closed.call n args level) = Unit {0}
IsNode (Closed.repeat op x) = Unit {0}
IsNode (Closed.group xs) = Unit {0}
IsNode (Closed.choose x) = ⊥
IsNode (Closed.name m n x) = ⊥
IsNode Closed.lookahead = Unit {0}
IsNode Closed.lookbehind = Unit {0}
IsNode Closed.faulty = Unit {0}

same_closed : (x y : Closed) → GrammarSymbol.nonterminal (Nonterminal.closed x) ≡ GrammarSymbol.nonterminal (Nonterminal.closed y)
    → x ≡ y
same_closed x y e = cc

terminal_node : (t : Terminal) (x : Closed) → symbol_of_terminal t ≡ GrammarSymbol.nonterminal (Nonterminal.closed x) → IsNode x
terminal_node (Terminal.quoted t) x e = absurd (let wrong : ⊥ = cc in wrong)
terminal_node (Terminal.regex t) x e = absurd (let wrong : ⊥ = cc in wrong)
terminal_node (Terminal.bare n) x e = absurd (let wrong : ⊥ = cc in wrong)
terminal_node Terminal.error x e = subst IsNode (same_closed (Closed.terminal Terminal.error) x e) tt

part_node : (z x : Closed) → grammar_symbol z ≡ GrammarSymbol.nonterminal (Nonterminal.closed x) → IsNode x
part_node (Closed.terminal t) x e = terminal_node t x e
part_node (Closed.call n args level) x e = subst IsNode (same_closed (Closed.call n args level) x e) tt
part_node (Closed.repeat op y) x e = subst IsNode (same_closed (Closed.repeat op y) x e) tt
part_node (Closed.group ys) x e = subst IsNode (same_closed (Closed.group ys) x e) tt
part_node (Closed.choose y) x e = part_node y x e
part_node (Closed.name m n y) x e = part_node y x e
part_node Closed.lookahead x e = subst IsNode (same_closed Closed.lookahead x e) tt
part_node Closed.lookbehind x e = subst IsNode (same_closed Closed.lookbehind x e) tt
part_node Closed.faulty x e = subst IsNode (same_closed Closed.faulty x e) tt

call_node : (n : Text) (args : Closeds) (level : Option ℕ) (x : Closed)
    → Nonterminal.closed x ≡ Nonterminal.closed (Closed.call n args level) → IsNode x
call_node n args level x e = subst IsNode (let same : Closed.call n args level ≡ x = cc in same) tt

-- a closed symbol of an expansion is such a nonterminal
pub expansion_node : (g : EnabledGrammar) (x : Closed) → InExpansion g (Nonterminal.closed x) → IsNode x
expansion_node g x (zero, inl b) = let e : Nonterminal.closed x ≡ Nonterminal.start b.0 = b.2 in absurd (let wrong : ⊥ = cc in wrong)
expansion_node g x (zero, inr b) = call_node b.0.name Closeds.none b.1 x b.5
expansion_node g x (suc k, b) =
    let u = side_symbols g b.0 b.1 b.2 b.4 in
    let z = among_map grammar_symbol u.0 (GrammarSymbol.nonterminal (Nonterminal.closed x))
    (subst (λ (s : RightSide). Among s (GrammarSymbol.nonterminal (Nonterminal.closed x))) u.1 b.5) in
    part_node z.0 x z.2

-- what has a type

no_error_type : (g : EnabledGrammar) (k : ℕ) (t : GroundType) → IsGroundedIn g k (Closed.terminal Terminal.error) t → ⊥
no_error_type g zero t h = h
no_error_type g (suc k) t h = h

-- the terminal of error recovery has none
pub error_untyped : (g : EnabledGrammar) (t : GroundType) → IsGrounded g (Closed.terminal Terminal.error) t → ⊥
error_untyped g t h = no_error_type g h.0 t h.1

no_faulty_type : (g : EnabledGrammar) (k : ℕ) (t : GroundType) → IsGroundedIn g k Closed.faulty t → ⊥
no_faulty_type g zero t h = h
no_faulty_type g (suc k) t h = h

-- nor has what is faulty
pub faulty_untyped : (g : EnabledGrammar) (t : GroundType) → IsGrounded g Closed.faulty t → ⊥
faulty_untyped g t h = no_faulty_type g h.0 t h.1

called_in : (g : EnabledGrammar) (n : Text) (args : Closeds) (level : Option ℕ) (k : ℕ) (t : GroundType)
    → IsGroundedIn g k (Closed.call n args level) t → (r : EnabledRule) × IsRule g n r
called_in g n args level zero t h = absurd h
called_in g n args level (suc k) t (i, inl d) = (d.rule, d.is_rule)
called_in g n args level (suc k) t (i, inr (inl d)) = (d.rule, d.fits.rule)
called_in g n args level (suc k) t (i, inr (inr d)) = (d.rule, d.is_rule)

-- a call that has one is of a rule
pub called_rule : (g : EnabledGrammar) (n : Text) (args : Closeds) (level : Option ℕ) (t : GroundType)
    → IsGrounded g (Closed.call n args level) t → (r : EnabledRule) × IsRule g n r
called_rule g n args level t h = called_in g n args level h.0 t h.1

same_alternative : (n m : Text) (args others : List Argument) (i j : ℕ)
    → Origin.alternative n args i ≡ Origin.alternative m others j → m ≡ n
same_alternative n m args others i j e = cc

module _ (finds : Text → Text → Option Bool) (features : List Text) (w : Grammar) where
  abbrev g : EnabledGrammar
  g = enabled_grammar finds features w

  abbrev enabled_ones : List Rule
  enabled_ones = filter (λ (r : Rule). is_active features r.attributes) (rules_of w.items)

  abbrev is_named : Text → Rule → Bool
  is_named n r = has_name n (enabled_rule features r)

  -- the one enabled rule of a name is that of each place
  one_written_rule : (n : Text) (r : EnabledRule) → IsRule g n r → (a b : Rule) → Among (rules_of w.items) a
      → Among (rules_of w.items) b → is_active features a.attributes ≡ true → is_active features b.attributes ≡ true → a.name ≡ n
      → b.name ≡ n → a ≡ b
  one_written_rule n r is a b i j on_a on_b name_a name_b =
      let many : length (filter (is_named n) enabled_ones) ≡ 1 =
      sym (filter_many (has_name n) (enabled_rule features) enabled_ones) ∙ ap length is in
      let z = one_element (filter (is_named n) enabled_ones) many in
      sym (only_passing (is_named n) enabled_ones z.0 z.1 a (there a i on_a) (named a name_a))
      ∙ only_passing (is_named n) enabled_ones z.0 z.1 b (there b j on_b) (named b name_b)
    where
      there : (c : Rule) → Among (rules_of w.items) c → is_active features c.attributes ≡ true → Among enabled_ones c
      there c k on = keeps (λ (q : Rule). is_active features q.attributes) (rules_of w.items) c k on

      named : (c : Rule) → c.name ≡ n → is_named n c ≡ true
      named c e = subst (λ (t : Text). bytes_eq c.name t ≡ true) e (same_text-refl c.name)

  -- a rule stands at one place
  pub one_rule_span : (n : Text) (r : EnabledRule) → IsRule g n r → (p q : TextSpan) → IsRuleSpan features w n p
      → IsRuleSpan features w n q → p ≡ q
  one_rule_span n r is p q h k =
      sym h.span_is
      ∙ ap (λ (c : Rule). c.span)
      (one_written_rule n r is h.rule k.rule h.rule_there k.rule_there h.enabled k.enabled h.name_is k.name_is)
      ∙ k.span_is

  -- and has its attributes
  pub one_rule_attributes : (n : Text) (r : EnabledRule) → IsRule g n r → (a b : List Attr) → IsRuleAttributes features w n a
      → IsRuleAttributes features w n b → a ≡ b
  one_rule_attributes n r is a b h k =
      sym h.attributes_are
      ∙ ap (λ (c : Rule). without_cfg c.attributes)
      (one_written_rule n r is h.rule k.rule h.rule_there k.rule_there h.enabled k.enabled h.name_is k.name_is)
      ∙ k.attributes_are

  -- each of its alternatives stands at one place, too
  one_alternative_span : (n : Text) (r : EnabledRule) → IsRule g n r → (place : ℕ) (p q : TextSpan)
      → IsWrittenSpan features w n place p → IsWrittenSpan features w n place q → p ≡ q
  one_alternative_span n r is place p q h k =
      let same = one_written_rule n r is h.rule k.rule h.rule_there k.rule_there h.rule_enabled k.rule_enabled h.name_is k.name_is in
      let at : Among (at_places n 0 h.rule.alternatives) (Origin.alternative n [] place, k.alternative) =
      subst (λ (c : Rule). Among (at_places n 0 c.alternatives) (Origin.alternative n [] place, k.alternative)) (sym same) k.at in
      let one = one_at n 0 h.rule.alternatives (Origin.alternative n [] place, h.alternative)
      (Origin.alternative n [] place, k.alternative) h.at at refl in
      sym h.span_is ∙ ap (λ (x : Origin × Alternative). x.1.span) one ∙ k.span_is

  -- the rule of which a production's choice tells an alternative
  told_rule : (x : Nonterminal) (n : Text) (args : List Argument) (place : ℕ) (side : RightSide)
      → Produces g x (Origin.alternative n args place) side → (r : EnabledRule) × IsRule g n r
  told_rule (Nonterminal.start m) n args place side p =
      let e : Origin.alternative n args place ≡ Origin.start = p.4 in absurd (let wrong : ⊥ = cc in wrong)
  told_rule (Nonterminal.closed (Closed.call m as_ level)) n args place side (inl d) =
      let told = places_told finds features w m as_ d.rule d.choice d.fits in
      let at : Origin.alternative n args place ≡ Origin.alternative m (argument_list g.spelled as_) told.0 =
      d.origin_is ∙ ap (origin_with (argument_list g.spelled as_)) told.1 in
      let name : m ≡ n = same_alternative n m args (argument_list g.spelled as_) place told.0 at in
      (d.rule, subst (λ (t : Text). IsRule g t d.rule) name d.fits.rule)
  told_rule (Nonterminal.closed (Closed.call m as_ level)) n args place side (inr d) =
      let e : Origin.alternative n args place ≡ Origin.pass_down = d.origin_is in absurd (let wrong : ⊥ = cc in wrong)
  told_rule (Nonterminal.closed (Closed.repeat Op.plus y)) n args place side (inl d) =
      let e : Origin.alternative n args place ≡ Origin.plus_one = d.0 in absurd (let wrong : ⊥ = cc in wrong)
  told_rule (Nonterminal.closed (Closed.repeat Op.plus y)) n args place side (inr d) =
      let e : Origin.alternative n args place ≡ Origin.plus_more = d.0 in absurd (let wrong : ⊥ = cc in wrong)
  told_rule (Nonterminal.closed (Closed.repeat Op.star y)) n args place side (inl d) =
      let e : Origin.alternative n args place ≡ Origin.star_none = d.0 in absurd (let wrong : ⊥ = cc in wrong)
  told_rule (Nonterminal.closed (Closed.repeat Op.star y)) n args place side (inr d) =
      let e : Origin.alternative n args place ≡ Origin.star_some = d.0 in absurd (let wrong : ⊥ = cc in wrong)
  told_rule (Nonterminal.closed (Closed.repeat Op.question y)) n args place side (inl d) =
      let e : Origin.alternative n args place ≡ Origin.opt_none = d.0 in absurd (let wrong : ⊥ = cc in wrong)
  told_rule (Nonterminal.closed (Closed.repeat Op.question y)) n args place side (inr d) =
      let e : Origin.alternative n args place ≡ Origin.opt_some = d.0 in absurd (let wrong : ⊥ = cc in wrong)
  told_rule (Nonterminal.closed (Closed.group ys)) n args place side d =
      let e : Origin.alternative n args place ≡ Origin.group = d.0 in absurd (let wrong : ⊥ = cc in wrong)
  told_rule (Nonterminal.closed Closed.lookahead) n args place side d =
      let e : Origin.alternative n args place ≡ Origin.look = d.0 in absurd (let wrong : ⊥ = cc in wrong)
  told_rule (Nonterminal.closed Closed.lookbehind) n args place side d =
      let e : Origin.alternative n args place ≡ Origin.look = d.0 in absurd (let wrong : ⊥ = cc in wrong)
  told_rule (Nonterminal.closed (Closed.terminal t)) n args place side d = absurd d
  told_rule (Nonterminal.closed (Closed.choose y)) n args place side d = absurd d
  told_rule (Nonterminal.closed (Closed.name a m y)) n args place side d = absurd d
  told_rule (Nonterminal.closed Closed.faulty) n args place side d = absurd d

  -- a production stands at one place, by that of its nonterminal
  pub one_choice_span : (x : Nonterminal) (o : Origin) (side : RightSide) (own p q : TextSpan) → Produces g x o side
      → StandsByChoice features w own o p → StandsByChoice features w own o q → p ≡ q
  one_choice_span x (Origin.alternative n args place) side own p q m h k =
      let r = told_rule x n args place side m in one_alternative_span n r.0 r.1 place p q h k
  one_choice_span x _ side own p q m h k = h ∙ sym k
