-- The rules that are written for repeats, groups and lookarounds.
use Rattle.std.specs.Prelude.{◌≡◌, Bool, true, false, List, [], ◌∷◌, Option, Some, None, codes}
use Rattle.lalrpop_grammar_symbols.specs.Symbols.{Text, TextSpan, Op, WrittenSymbol, Closed, closed_list}
use Rattle.lalrpop_grammar.specs.WrittenGrammar.{Action, Alternative, Attr, Origin, Rule, Ty, Tys}

-- An alternative that is added for these closed symbols.
pub record IsAddedAlternative (symbols : List Closed → List WrittenSymbol → Type 0) (p : TextSpan) (a : Action) (o : Origin)
    (xs : List Closed) (made : Alternative) : Type 0 where
  pub span : made.span ≡ p
  pub symbols_are : symbols xs made.expr
  pub unconditional : made.condition ≡ None
  pub action : made.action ≡ a
  pub no_attributes : made.attributes ≡ []
  pub origin : made.origin ≡ o

-- what is added: what it does, which choice it stands for, and its symbols
pub record AddedChoice : Type 0 where
  pub action : Action
  pub origin : Origin
  pub symbols : List Closed

abbrev pub without_code : Origin → List Closed → AddedChoice
without_code o xs = record { action = Action.default; origin = o; symbols = xs }

-- the alternatives of the rule of a repeat, a group or a lookaround
abbrev pub added_choices : Closed → List AddedChoice
added_choices (Closed.repeat Op.plus x) =
    without_code Origin.plus_one (x ∷ []) ∷ without_code Origin.plus_more (Closed.repeat Op.plus x ∷ x ∷ []) ∷ []
added_choices (Closed.repeat Op.star x) =
    without_code Origin.star_none [] ∷ without_code Origin.star_some (Closed.repeat Op.plus x ∷ []) ∷ []
added_choices (Closed.repeat Op.question x) = without_code Origin.opt_some (x ∷ []) ∷ without_code Origin.opt_none [] ∷ []
added_choices (Closed.group xs) = without_code Origin.group (closed_list xs) ∷ []
added_choices Closed.lookahead = record { action = Action.lookahead; origin = Origin.look; symbols = [] } ∷ []
added_choices Closed.lookbehind = record { action = Action.lookbehind; origin = Origin.look; symbols = [] } ∷ []
added_choices (Closed.terminal t) = []
added_choices (Closed.call n args level) = []
added_choices (Closed.choose x) = []
added_choices (Closed.name m n x) = []
added_choices Closed.faulty = []

abbrev pub AreAddedAlternatives : (List Closed → List WrittenSymbol → Type 0) → TextSpan → List AddedChoice → List Alternative
    → Type 0
AreAddedAlternatives symbols p [] made = made ≡ []
AreAddedAlternatives symbols p (c ∷ cs) made =
    (a : Alternative) × (rest : List Alternative) × (made ≡ a ∷ rest)
    × IsAddedAlternative symbols p c.action c.origin c.symbols a × AreAddedAlternatives symbols p cs rest

-- all of these are inlined but `X+`
abbrev pub is_added_inlined : Closed → Bool
is_added_inlined (Closed.repeat Op.plus x) = false
is_added_inlined _ = true

-- the attribute that says so
abbrev pub inline_attributes : TextSpan → Bool → List Attr
inline_attributes p true = Attr.empty p (codes "inline") ∷ []
inline_attributes p false = []

-- the type that the rule of a repeat, a group or a lookaround declares
abbrev pub IsAddedType : (Op → Closed → Ty → Type 0) → Closed → Option Ty → Type 0
IsAddedType repeats (Closed.repeat op x) o = (z : Ty) × (o ≡ Some z) × repeats op x z
IsAddedType repeats (Closed.group xs) o = o ≡ None
IsAddedType repeats Closed.lookahead o = o ≡ Some (Ty.nominal (codes "usize") Tys.none)
IsAddedType repeats Closed.lookbehind o = o ≡ Some (Ty.nominal (codes "usize") Tys.none)
IsAddedType repeats (Closed.terminal t) o = o ≡ None
IsAddedType repeats (Closed.call n args level) o = o ≡ None
IsAddedType repeats (Closed.choose x) o = o ≡ None
IsAddedType repeats (Closed.name m n x) o = o ≡ None
IsAddedType repeats Closed.faulty o = o ≡ None

-- The rule of a repeat, a group or a lookaround, written there under that name.
pub record IsAddedRule (symbols : List Closed → List WrittenSymbol → Type 0) (repeats : Op → Closed → Ty → Type 0) (x : Closed)
    (n : Text) (p : TextSpan) (made : Rule) : Type 0 where
  pub name : made.name ≡ n
  pub private : made.public ≡ false
  pub attributes : made.attributes ≡ inline_attributes p (is_added_inlined x)
  pub span : made.span ≡ p
  pub parameters : made.parameters ≡ []
  pub declared : IsAddedType repeats x made.declared
  pub alternatives : AreAddedAlternatives symbols p (added_choices x) made.alternatives
