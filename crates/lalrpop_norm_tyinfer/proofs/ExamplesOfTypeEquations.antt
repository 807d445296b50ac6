-- Computed examples of equations of rules, of types by a table, and of faults of types that may be told.
use Prim.Native.String.{String}
use Rattle.std.proofs.Common.{◌≡◌, ℕ, List, [], ◌∷◌, refl, ap, sym, ◌∙◌, subst, inl, inr, Bool, true, false, cond, map}
use Rattle.std.specs.Prelude.{Option, Some, None, Err, codes, if◌then◌else◌}
use Rattle.std.specs.Str.{bytes_eq}
use Rattle.lalrpop_grammar_symbols.specs.Symbols.{Op, Sym, Terminal, Text, WrittenSymbol}
use Rattle.lalrpop_grammar.specs.WrittenGrammar.{Action, Alternative, Grammar, Rule, Ty, Tys, WrittenItem}
use Rattle.lalrpop_grammar_language.specs.Among.{Among}
use Rattle.lalrpop_grammar_language.specs.Enabled.{EnabledRule}
use Rattle.lalrpop_grammar_language.proofs.PlaceLemmas.{same_text-eq}
use Rattle.lalrpop_grammar_language.proofs.WrittenTreeLemmas.{alt, grammar, here, lit, maps}
use Rattle.lalrpop_grammar_repr.specs.declared.norm_error.NormErrorKind.{NormErrorKind}
use Rattle.lalrpop_grammar_repr.specs.declared.norm_error.NormErrorKind.TheVariants as kinds
use Rattle.lalrpop_grammar_repr.specs.declared.session.NormFault.{NormFault}
use Rattle.lalrpop_grammar_repr.specs.declared.session.NormFault.TheVariants as faults
use Rattle.lalrpop_norm_theory.specs.Types.{GroundType, GroundTypes, IsGrounded, text_type}
use Rattle.lalrpop_norm_theory.specs.Between.{grammar_between, rule_between}
use Rattle.lalrpop_norm_theory.specs.Premises.{IsExpanded}
use Rattle.lalrpop_norm_tyinfer.specs.TypesByTable.{RuleTypes, chosen_symbols, known_names}
use Rattle.lalrpop_norm_tyinfer.specs.Equations.{TypeEquation, TypeSource, source_ground_type, type_equations}
use Rattle.lalrpop_norm_tyinfer.specs.TypeFaults.{HasDisagreeingAlternatives, IsTypeFault, WhereExpanded, nonterminal_of, rule_symbol}
use Rattle.lalrpop_norm_tyinfer.specs.NamedRules.{rules_in_source}
use Rattle.lalrpop_norm_tyinfer.specs.TerminalTypes.{grammar_terminals}
use Rattle.lalrpop_norm_tyinfer.specs.ProgramViews.{IsRightTable}
use Rattle.lalrpop_norm_tyinfer.proofs.EquationLemmas.{equation_grounded}
use Rattle.lalrpop_norm_tyinfer.proofs.GrownTableLemmas.{Stays, source_stays}
use Rattle.lalrpop_norm_tyinfer.proofs.SearchLemmas.{disagreement}
use Rattle.lalrpop_norm_tyinfer.proofs.UntypedLemmas.{first_told, in_table}

-- a rule, a chosen symbol, and a rule at bytes 1 to 8
abbrev rule : String → WrittenSymbol
rule n = Sym.nonterminal here (codes n)

abbrev chosen : WrittenSymbol → WrittenSymbol
chosen x = Sym.choose here x

abbrev default : List WrittenSymbol → Alternative
default symbols = record (alt symbols) { action = Action.default }

abbrev rule_typed : String → Option Ty → List Alternative → Rule
rule_typed n declared alternatives = record {
  public = true;
  name = codes n;
  attributes = [];
  span = (1, 8);
  parameters = [];
  declared = declared;
  alternatives = alternatives;
}

abbrev of_rules : List Rule → Grammar
of_rules rules = grammar (map WrittenItem.nonterminal rules)

abbrev nothing_known : RuleTypes
nothing_known n = None

abbrev a_text : RuleTypes
a_text n = if bytes_eq n (codes "X") then Some text_type else None

abbrev types_by : RuleTypes → Grammar → List (Option GroundType)
types_by table g = map (λ (e : TypeEquation). source_ground_type (known_names g) table e.source) (type_equations g)

abbrev two_types : GroundType → GroundType → GroundType
two_types t u = GroundType.tuple (GroundTypes.more t (GroundTypes.more u GroundTypes.none))

-- X = { "a", X, "b" with user code }: two equations, of which the second waits for X
abbrev itself : Grammar
itself = of_rules (rule_typed "X" None (default (lit "a" ∷ []) ∷ default (rule "X" ∷ []) ∷ alt (lit "b" ∷ []) ∷ []) ∷ [])

at_first : types_by nothing_known itself ≡ Some text_type ∷ None ∷ []
at_first = refl

at_last : types_by a_text itself ≡ Some text_type ∷ Some text_type ∷ []
at_last = refl

-- a declared type is the one equation: X: Box<#X#> = "a", and a name is a type of that name, also where a rule has it
abbrev declared : Grammar
declared = of_rules (rule_typed "X" (Some (Ty.nominal (codes "Box") (Tys.more (Ty.of_symbol (rule "X")) Tys.none)))
    (default (lit "a" ∷ []) ∷ []) ∷ rule_typed "Y" (Some (Ty.id (codes "X"))) [] ∷ [])

own_type : types_by nothing_known declared ≡ None ∷ Some (GroundType.nominal (codes "X") GroundTypes.none) ∷ []
own_type = refl

-- a chosen symbol alone counts, several are a tuple, and none the empty one
one_chosen : chosen_symbols (lit "a" ∷ chosen (rule "X") ∷ lit "b" ∷ []) ≡ chosen (rule "X") ∷ []
one_chosen = refl

abbrev alternatives_of : List WrittenSymbol → Grammar
alternatives_of symbols = of_rules (rule_typed "Y" None (default symbols ∷ []) ∷ rule_typed "X" None [] ∷ [])

chosen_type : types_by a_text (alternatives_of (lit "a" ∷ chosen (rule "X") ∷ lit "b" ∷ [])) ≡ Some text_type ∷ []
chosen_type = refl

tuple_type : types_by a_text (alternatives_of (lit "a" ∷ rule "X" ∷ [])) ≡ Some (two_types text_type text_type) ∷ []
tuple_type = refl

empty_type : types_by a_text (alternatives_of []) ≡ Some (GroundType.tuple GroundTypes.none) ∷ []
empty_type = refl

-- a bare name that isn't mapped has no type, nor has a symbol that no pass would have left; a rule hides a mapped name
abbrev mapped : Grammar
mapped = grammar (maps "n" "NUM" ∷ WrittenItem.nonterminal (rule_typed "Y" None
    (default (Sym.terminal here (Terminal.bare (codes "NUM")) ∷ []) ∷ default (Sym.terminal here (Terminal.bare (codes "ID")) ∷ [])
    ∷ default (rule "NUM" ∷ []) ∷ default (Sym.repeat here Op.star (lit "a") ∷ []) ∷ [])) ∷ [])

mapped_types : types_by a_text mapped ≡ Some text_type ∷ None ∷ Some text_type ∷ None ∷ []
mapped_types = refl

-- faults

abbrev told : NormErrorKind → ℕ → ℕ → NormFault
told kind k m = faults.Norm (record { kind = kind; span = record { 0 = k; 1 = m } })

-- X = X has no type
abbrev x_rule : Rule
x_rule = rule_typed "X" None (default (rule "X" ∷ []) ∷ [])

nothing_right : (g : Grammar) → IsRightTable g nothing_known
nothing_right g = record {
  grounded = λ finds w n t e. absurd (let wrong : ⊥ = cc in wrong);
  given = λ n t e. absurd (let wrong : ⊥ = cc in wrong);
}

circular_told : IsTypeFault (of_rules (x_rule ∷ [])) (told (kinds.NoType (nonterminal_of (codes "X"))) 1 8)
circular_told =
    first_told (of_rules (x_rule ∷ [])) nothing_known (nothing_right (of_rules (x_rule ∷ []))) (λ t e. e, tt) x_rule
    (told (kinds.NoType (nonterminal_of (codes "X"))) 1 8) refl refl

-- X = { "a", "b" X } has two
abbrev two_kinds : Rule
two_kinds = rule_typed "X" None (default (lit "a" ∷ []) ∷ default (lit "b" ∷ rule "X" ∷ []) ∷ [])

abbrev disagreeing : Grammar
disagreeing = of_rules (two_kinds ∷ [])

-- a text for X is right where an equation of X gives one from nothing
text_right : (g : Grammar) (e : TypeEquation) → Among (type_equations g) e → e.rule.name ≡ codes "X"
    → source_ground_type (known_names g) nothing_known e.source ≡ Some text_type → IsRightTable g a_text
text_right g e i named given = record {
  grounded = λ finds w n t f. grounded_at finds w n t (bytes_eq n (codes "X")) refl f;
  given = λ n t f. given_at n t (bytes_eq n (codes "X")) refl f;
}
  where
    grounded_at : (finds : Text → Text → Option Bool) → IsExpanded (grammar_between finds g) → (n : Text) (t : GroundType)
        (b : Bool) → bytes_eq n (codes "X") ≡ b → cond b (Some text_type) None ≡ Some t
        → IsGrounded (grammar_between finds g) (rule_symbol n) t
    grounded_at finds w n t true h k =
        let is : text_type ≡ t = cc in
        let same : n ≡ codes "X" = same_text-eq n (codes "X") h in
        subst (λ u. IsGrounded (grammar_between finds g) (rule_symbol n) u) is
        (subst (λ m. IsGrounded (grammar_between finds g) (rule_symbol m) text_type) (named ∙ sym same)
        (equation_grounded finds g w nothing_known ((nothing_right g).grounded finds w) e i text_type given))
    grounded_at finds w n t false h k = absurd (let wrong : ⊥ = cc in wrong)

    nothing_grows : (m : Text) → Stays (nothing_known m) (a_text m)
    nothing_grows m t f = absurd (let wrong : ⊥ = cc in wrong)

    given_at : (n : Text) (t : GroundType) (b : Bool) → bytes_eq n (codes "X") ≡ b → cond b (Some text_type) None ≡ Some t
        → (d : TypeEquation) × Among (type_equations g) d × (d.rule.name ≡ n)
        × (source_ground_type (known_names g) a_text d.source ≡ Some t)
    given_at n t true h k =
        let is : Some text_type ≡ Some t = k in (
          e,
          i,
          named ∙ sym (same_text-eq n (codes "X") h),
          source_stays (known_names g) nothing_known a_text nothing_grows e.source text_type given ∙ is,
        )
    given_at n t false h k = absurd (let wrong : ⊥ = cc in wrong)

differing_told : IsTypeFault disagreeing (told kinds.TypesDisagree 1 8)
differing_told =
    disagreement disagreeing (record { rule = two_kinds; source = TypeSource.symbols (lit "b" ∷ rule "X" ∷ []) }) a_text
    (two_types text_type text_type) (inr (inl refl))
    (text_right disagreeing (record { rule = two_kinds; source = TypeSource.symbols (lit "a" ∷ []) }) (inl refl) refl refl) refl
    (Err (told kinds.TypesDisagree 1 8)) (refl, text_type, refl, λ e. cc)

-- where X declares a type, its alternatives give it none, so no two types are told of it
abbrev declared_x : Rule
declared_x = rule_typed "X" (Some (Ty.id (codes "T"))) (default (lit "a" ∷ []) ∷ default (lit "b" ∷ rule "X" ∷ []) ∷ [])

abbrev first_rule : List EnabledRule → EnabledRule
first_rule [] = rule_between declared_x
first_rule (r ∷ rs) = r

declared_refused : (finds : Text → Text → Option Bool)
    → HasDisagreeingAlternatives (grammar_between finds (of_rules (declared_x ∷ []))) (codes "X") → ⊥
declared_refused finds h =
    let same : rule_between declared_x ≡ h.first_by.rule = ap first_rule h.first_by.fits.rule in
    let wrong : Some (Ty.id (codes "T")) ≡ None = ap (λ (r : EnabledRule). r.declared) same ∙ h.first_by.undeclared in cc

-- X = { "a", X } has that of "a" alone
abbrev x_itself : Rule
x_itself = rule_typed "X" None (default (lit "a" ∷ []) ∷ default (rule "X" ∷ []) ∷ alt (lit "b" ∷ []) ∷ [])

only_text : WhereExpanded itself (λ e. (t : GroundType) → IsGrounded e (rule_symbol (codes "X")) t → Some text_type ≡ Some t)
only_text finds w t h =
    in_table itself a_text
    (text_right itself (record { rule = x_itself; source = TypeSource.symbols (lit "a" ∷ []) }) (inl refl) refl refl)
    (λ u e. e, (λ u e. e, tt)) finds w (codes "X") t h

-- an alternative needs the types of the rules among the symbols that count; a name that no rule has is none
needed_by_chosen :
    rules_in_source (known_names disagreeing) (TypeSource.symbols (lit "a" ∷ chosen (rule "X") ∷ rule "Y" ∷ [])) ≡ codes "X" ∷ []
needed_by_chosen = refl

needed_by_all :
    rules_in_source (known_names disagreeing) (TypeSource.symbols (lit "a" ∷ rule "X" ∷ rule "Y" ∷ [])) ≡ codes "X" ∷ []
needed_by_all = refl

-- terminals that stand in alternatives have types, maybe named or chosen
terminals_there : grammar_terminals disagreeing ≡ Terminal.quoted (codes "a") ∷ Terminal.quoted (codes "b") ∷ []
terminals_there = refl
