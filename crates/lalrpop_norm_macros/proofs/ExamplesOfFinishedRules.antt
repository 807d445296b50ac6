-- Computed examples of finished rules: an instance of a macro, a repeat and a group, each with answers that are refused.
use Rattle.std.proofs.Common.{◌≡◌, List, [], ◌∷◌, ap, refl, inl, inr, subst, sym}
use Rattle.std.specs.Str.{bytes_eq}
use Rattle.std.proofs.lemmas.Bool.{true≢false}
use Rattle.std.specs.Prelude.{Bool, true, false, Option, Some, None, codes}
use Rattle.lalrpop_grammar_symbols.specs.Symbols.{Text, TextSpan, Terminal, Op, Closed, Closeds, Sym, WrittenSymbol}
use Rattle.lalrpop_grammar_symbols.specs.Texts.{escape_byte}
use Rattle.lalrpop_grammar.specs.WrittenGrammar.{Action, Alternative, Attr, ConditionTest, Grammar, Origin, Rule, Ty, Tys}
use Rattle.lalrpop_grammar.specs.WrittenGrammar.{WrittenItem, rules_of}
use Rattle.lalrpop_grammar_language.specs.Among.{Among}
use Rattle.lalrpop_grammar_language.specs.Enabled.{EnabledGrammar}
use Rattle.lalrpop_grammar_language.specs.Conditions.{Holds}
use Rattle.lalrpop_grammar_language.specs.Admitting.{bind}
use Rattle.lalrpop_norm_theory.specs.Between.{grammar_between, rule_between}
use Rattle.lalrpop_norm_theory.specs.Keys.{flat_key_text}
use Rattle.lalrpop_norm_theory.specs.Types.{type_scope}
use Rattle.lalrpop_norm_theory.specs.KeyRules.{AreWrittenFor}
use Rattle.lalrpop_norm_theory.specs.KeyTypes.{IsPutDeclaration}
use Rattle.lalrpop_norm_macros.specs.FinishedRules.{BecomesInInstance, IsFinishedRule}
use Rattle.lalrpop_norm_macros.specs.InstanceRules.{AreInstancesBy, IsInstanceRule}
use Rattle.lalrpop_norm_macros.specs.KeyedSymbols.{AreWrittenByName}

-- M<T>: Vec<T> = { T if T == "a" => x, T if T == "b" => y }, inlined
abbrev here : TextSpan
here = (3, 9)

abbrev literal : Text → Terminal
literal t = Terminal.quoted t

abbrev one_of : Text → Text → Alternative
one_of t code = record {
  span = (4, 5);
  expr = Sym.ambiguous_id (4, 5) (codes "T") ∷ [];
  condition = Some (record { place = (4, 5); parameter = codes "T"; test = ConditionTest.equals; against = t });
  action = Action.user code;
  attributes = [];
  origin = Origin.alternative (codes "M") [] 0;
}

abbrev macro_m : Rule
macro_m = record {
  public = false;
  name = codes "M";
  attributes = Attr.empty (3, 4) (codes "inline") ∷ [];
  span = here;
  parameters = codes "T" ∷ [];
  declared = Some (Ty.nominal (codes "Vec") (Tys.more (Ty.id (codes "T")) Tys.none));
  alternatives = one_of (codes "a") (codes "x") ∷ one_of (codes "b") (codes "y") ∷ [];
}

abbrev grammar : Grammar
grammar = record {
  prefix = codes "__";
  span = (0, 9);
  parameters = [];
  type_parameters = [];
  where_clauses = [];
  attributes = [];
  items = WrittenItem.nonterminal macro_m ∷ [];
}

abbrev finds_none : Text → Text → Option Bool
finds_none pattern text = None

abbrev g : EnabledGrammar
g = grammar_between finds_none grammar

abbrev a_symbol : Closed
a_symbol = Closed.terminal (literal (codes "a"))

abbrev m_of_a : Closed
m_of_a = Closed.call (codes "M") (Closeds.more a_symbol Closeds.none) None

abbrev made_alternative : Origin → Alternative
made_alternative o = record {
  span = (4, 5);
  expr = Sym.terminal (4, 5) (literal (codes "a")) ∷ [];
  condition = None;
  action = Action.user (codes "x");
  attributes = [];
  origin = o;
}

abbrev made_m : List Alternative → Rule
made_m as_ = record {
  public = false;
  name = flat_key_text m_of_a;
  attributes = Attr.empty (3, 4) (codes "inline") ∷ [];
  span = here;
  parameters = [];
  declared = Some (Ty.nominal (codes "Vec") (Tys.more (Ty.of_symbol (Sym.terminal here (literal (codes "a")))) Tys.none));
  alternatives = as_;
}

abbrev with_argument : Origin
with_argument = Origin.alternative (codes "M") (Sym.terminal tt (literal (codes "a")) ∷ []) 0

-- the first alternative holds, the second doesn't; the parameter of the type is the argument
instance_of_m : IsFinishedRule g (rules_of grammar.items) flat_key_text (m_of_a ∷ []) m_of_a here
    (made_m (made_alternative with_argument ∷ []))
instance_of_m = (
  macro_m,
  record { among = inl refl; is_rule = refl; arguments = refl; flat = refl },
  record {
    name = refl;
    public = refl;
    attributes = refl;
    span = refl;
    parameters = refl;
    declared = (
      Ty.nominal (codes "Vec") (Tys.more (Ty.of_symbol (Sym.terminal here (literal (codes "a")))) Tys.none),
      refl,
      (
        Tys.more (Ty.of_symbol (Sym.terminal here (literal (codes "a")))) Tys.none,
        refl,
        (
          Ty.of_symbol (Sym.terminal here (literal (codes "a"))),
          Tys.none,
          refl,
          (Sym.terminal here (literal (codes "a")), refl, inl (tt, (refl, tt))),
          refl,
        ),
      ),
    );
    alternatives = inl (
      refl,
      made_alternative with_argument,
      [],
      refl,
      record {
        span = refl;
        symbols_are = ((tt, tt, tt), ((refl, tt), tt));
        unconditional = refl;
        action = refl;
        no_attributes = refl;
        origin = refl;
      },
      inr ((λ e. true≢false (ap (λ t. bytes_eq t (codes "a")) e)), refl),
    );
  },
)

-- `"a"*` is nothing, or `"a"+`
abbrev star_key : Closed
star_key = Closed.repeat Op.star a_symbol

abbrev plus_key : Closed
plus_key = Closed.repeat Op.plus a_symbol

abbrev added_here : Origin → List WrittenSymbol → Alternative
added_here o xs = record { span = here; expr = xs; condition = None; action = Action.default; attributes = []; origin = o }

abbrev made_star : WrittenSymbol → Bool → Rule
made_star v is_public = record {
  public = is_public;
  name = flat_key_text star_key;
  attributes = Attr.empty here (codes "inline") ∷ [];
  span = here;
  parameters = [];
  declared = Some (Ty.nominal (codes "Vec") (Tys.more (Ty.of_symbol (Sym.terminal here (literal (codes "a")))) Tys.none));
  alternatives = added_here Origin.star_none [] ∷ added_here Origin.star_some (v ∷ []) ∷ [];
}

abbrev by_text : Closed → WrittenSymbol
by_text x = Sym.nonterminal here (flat_key_text x)

abbrev IsStarRule : Rule → Type 0
IsStarRule q = IsFinishedRule g (rules_of grammar.items) flat_key_text (star_key ∷ plus_key ∷ []) star_key here q

star_rule : IsStarRule (made_star (by_text plus_key) false)
star_rule = record {
  name = refl;
  private = refl;
  attributes = refl;
  span = refl;
  parameters = refl;
  declared = (
    Ty.nominal (codes "Vec") (Tys.more (Ty.of_symbol (Sym.terminal here (literal (codes "a")))) Tys.none),
    refl,
    (Sym.terminal here (literal (codes "a")), refl, (refl, tt)),
  );
  alternatives = (
    added_here Origin.star_none [],
    added_here Origin.star_some (by_text plus_key ∷ []) ∷ [],
    refl,
    record { span = refl; symbols_are = (tt, tt); unconditional = refl; action = refl; no_attributes = refl; origin = refl },
    (
      added_here Origin.star_some (by_text plus_key ∷ []),
      [],
      refl,
      record {
        span = refl;
        symbols_are = ((inr (inl refl), tt, tt), ((refl, tt), tt));
        unconditional = refl;
        action = refl;
        no_attributes = refl;
        origin = refl;
      },
      refl,
    ),
  );
}

-- refused: one that is public, and one of itself
star_public_refused : IsStarRule (made_star (by_text plus_key) true) → ⊥
star_public_refused m = true≢false m.private

star_of_itself_refused : IsStarRule (made_star (by_text star_key) false) → ⊥
unfolding escape_byte
star_of_itself_refused m =
    let second = m.alternatives.4 in
    let rest : m.alternatives.1 ≡ added_here Origin.star_some (by_text star_key ∷ []) ∷ [] = cc (m.alternatives.2) in
    let same : second.0 ≡ added_here Origin.star_some (by_text star_key ∷ []) = cc (rest, second.2) in
    let written = subst (λ (z : Alternative). AreWrittenFor g.bares flat_key_text (plus_key ∷ []) z.expr) same second.3.symbols_are.1 in
    true≢false (ap (λ t. bytes_eq t (flat_key_text star_key)) written.0.0)

-- `("a")` is `"a"`, and declares nothing
abbrev group_key : Closed
group_key = Closed.group (Closeds.more a_symbol Closeds.none)

abbrev made_group : Option Ty → List WrittenSymbol → Rule
made_group declared xs = record {
  public = false;
  name = flat_key_text group_key;
  attributes = Attr.empty here (codes "inline") ∷ [];
  span = here;
  parameters = [];
  declared = declared;
  alternatives = added_here Origin.group xs ∷ [];
}

abbrev IsGroupRule : Rule → Type 0
IsGroupRule q = IsFinishedRule g (rules_of grammar.items) flat_key_text (group_key ∷ []) group_key here q

group_rule : IsGroupRule (made_group None (Sym.terminal here (literal (codes "a")) ∷ []))
group_rule = record {
  name = refl;
  private = refl;
  attributes = refl;
  span = refl;
  parameters = refl;
  declared = refl;
  alternatives = (
    added_here Origin.group (Sym.terminal here (literal (codes "a")) ∷ []),
    [],
    refl,
    record {
      span = refl;
      symbols_are = ((tt, tt, tt), ((refl, tt), tt));
      unconditional = refl;
      action = refl;
      no_attributes = refl;
      origin = refl;
    },
    refl,
  );
}

-- refused: one with a type, and one without its symbol
group_with_type_refused : (z : Ty) (xs : List WrittenSymbol) → IsGroupRule (made_group (Some z) xs) → ⊥
group_with_type_refused z xs m = let e : Some z ≡ None = m.declared in cc

group_without_symbol_refused : IsGroupRule (made_group None []) → ⊥
group_without_symbol_refused m =
    let a = m.alternatives in
    let same : a.0 ≡ added_here Origin.group [] = cc (a.2) in
    (subst (λ (z : Alternative). AreWrittenByName g.bares flat_key_text (group_key ∷ []) (a_symbol ∷ []) z.expr) same
    a.3.symbols_are).1

-- an instance is one of the one macro
abbrev arguments : Closeds
arguments = Closeds.more a_symbol Closeds.none

abbrev IsInstanceOf : Rule → Rule → Type 0
IsInstanceOf r q =
    IsInstanceRule (IsPutDeclaration g.bares flat_key_text (m_of_a ∷ []) (type_scope g (rule_between r) arguments))
    (Holds g (bind (rule_between r) arguments)) (BecomesInInstance g flat_key_text (m_of_a ∷ []) (rule_between r) arguments)
    arguments (flat_key_text m_of_a) r q

one_macro : (q : Rule) → IsFinishedRule g (rules_of grammar.items) flat_key_text (m_of_a ∷ []) m_of_a here q → IsInstanceOf macro_m q
one_macro q (written, c, m) = go written c.among m
  where
    go : (r : Rule) → Among (rules_of grammar.items) r → IsInstanceOf r q → IsInstanceOf macro_m q
    go r (inl k) n = subst (λ (z : Rule). IsInstanceOf z q) (sym k) n
    go r (inr k) n = absurd k

-- refused: one whose origin has no arguments, and one whose type has the parameter
abbrev without_argument : Alternative
without_argument = made_alternative (Origin.alternative (codes "M") [] 0)

bare_origin_refused : IsFinishedRule g (rules_of grammar.items) flat_key_text (m_of_a ∷ []) m_of_a here (made_m (without_argument ∷ []))
    → ⊥
bare_origin_refused m = go (one_macro (made_m (without_argument ∷ [])) m).alternatives
  where
    go : AreInstancesBy (Holds g (bind (rule_between macro_m) arguments))
        (BecomesInInstance g flat_key_text (m_of_a ∷ []) (rule_between macro_m) arguments) macro_m.alternatives (without_argument ∷ [])
        → ⊥
    go (inl (h, b, rest, e, d, more)) =
        let same : b ≡ without_argument = cc (e) in
        let o = subst (λ (z : Alternative). z.origin ≡ with_argument) same d.origin in cc (o)
    go (inr (h, more)) = h refl

abbrev with_parameter : Ty
with_parameter = Ty.nominal (codes "Vec") (Tys.more (Ty.id (codes "T")) Tys.none)

parameter_left_refused : IsInstanceOf macro_m (record (made_m []) { declared = Some with_parameter }) → ⊥
parameter_left_refused m =
    let d = m.declared in
    let vec = d.2 in
    let first = vec.2 in
    let put = first.3 in
    let one : Some with_parameter ≡ Some d.0 = d.1 in
    let two : d.0 ≡ Ty.nominal (codes "Vec") vec.0 = vec.1 in
    let three : vec.0 ≡ Tys.more first.0 first.1 = first.2 in
    let four : first.0 ≡ Ty.of_symbol put.0 = put.1 in
    let inside : Ty.id (codes "T") ≡ Ty.of_symbol put.0 = cc (one, two, three, four) in cc
