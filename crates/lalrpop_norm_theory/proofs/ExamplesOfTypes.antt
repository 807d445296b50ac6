-- Computed examples of grounded types, and symbols that have none.
use Prim.Native.String.{String}
use Rattle.std.proofs.Common.{◌≡◌, ◌≢◌, ℕ, List, [], ◌∷◌, refl, inl, inr}
use Rattle.std.specs.Prelude.{Option, Some, None, codes, zero, suc, false}
use Rattle.lalrpop_grammar_symbols.specs.Symbols.{Closed, Closeds, Terminal, WrittenSymbol, Sym, Op}
use Rattle.lalrpop_grammar.specs.WrittenGrammar.{Attr, Alternative, Action, WrittenItem, Ty, Tys}
use Rattle.lalrpop_grammar_language.specs.Enabled.{EnabledGrammar, enabled_grammar}
use Rattle.lalrpop_grammar_language.specs.Expansion.{Nonterminal}
use Rattle.lalrpop_grammar_language.proofs.WrittenTreeLemmas.{here, lit, id, of_macro, in_group, many_of, maybe, level, with, alt}
use Rattle.lalrpop_grammar_language.proofs.WrittenTreeLemmas.{texts, grammar, finds}
use Rattle.lalrpop_norm_theory.specs.Types.{GroundType, GroundTypes, text_type, place_type, IsGrounded}
use Rattle.lalrpop_norm_theory.proofs.ExpansionListLemmas.{reached-in}
use Rattle.lalrpop_norm_theory.proofs.DerivableTypeLemmas.{type-in-table}

-- an alternative without user code
abbrev default : List WrittenSymbol → Alternative
default symbols = record (alt symbols) { action = Action.default }

-- the same with attributes
abbrev default_with : List Attr → List WrittenSymbol → Alternative
default_with attributes symbols = record (with attributes symbols) { action = Action.default }

abbrev rule_typed : String → List String → Option Ty → List Alternative → WrittenItem
rule_typed n parameters ty alternatives = WrittenItem.nonterminal (record {
  public = false;
  name = codes n;
  attributes = [];
  span = here;
  parameters = texts parameters;
  declared = ty;
  alternatives = alternatives;
})

abbrev untyped : String → List Alternative → WrittenItem
untyped n alternatives = rule_typed n [] None alternatives

abbrev rules : List WrittenItem → EnabledGrammar
rules items = enabled_grammar finds [] (grammar items)

abbrev of_rule : String → Option ℕ → Closed
of_rule n l = Closed.call (codes n) Closeds.none l

abbrev key : Closed → Nonterminal
key x = Nonterminal.closed x

abbrev x : Closed
x = of_rule "X" None

abbrev two_types : GroundType → GroundType → GroundType
two_types t u = GroundType.tuple (GroundTypes.more t (GroundTypes.more u GroundTypes.none))

-- X = { "a", X }
abbrev itself : EnabledGrammar
itself = rules (untyped "X" (default (lit "a" ∷ []) ∷ default (id "X" ∷ []) ∷ []) ∷ [])

text_of_itself : IsGrounded itself x text_type
text_of_itself = (
  2,
  (
    reached-in itself 0 (key x) (inl refl),
    inr (inl (record {
      rule = _;
      choice = _;
      fits = record { rule = refl; arguments = refl; written = inl refl; leveled = refl; holds = tt };
      undeclared = refl;
      level_is = refl;
      no_code = refl;
      type_is = refl;
    })),
  ),
)

-- and no other
only_text : (t : GroundType) → IsGrounded itself x t → Some text_type ≡ Some t
only_text t h = type-in-table itself ((x, text_type) ∷ []) (key x ∷ []) refl x t h

-- X = { "a", "b" X }: a text, and a text with an X
abbrev disagreeing : EnabledGrammar
disagreeing = rules (untyped "X" (default (lit "a" ∷ []) ∷ default (lit "b" ∷ id "X" ∷ []) ∷ []) ∷ [])

first_type : IsGrounded disagreeing x text_type
first_type = (
  2,
  (
    reached-in disagreeing 0 (key x) (inl refl),
    inr (inl (record {
      rule = _;
      choice = _;
      fits = record { rule = refl; arguments = refl; written = inl refl; leveled = refl; holds = tt };
      undeclared = refl;
      level_is = refl;
      no_code = refl;
      type_is = refl;
    })),
  ),
)

second_type : IsGrounded disagreeing x (two_types text_type text_type)
unfolding first_type
second_type = (
  3,
  (
    reached-in disagreeing 0 (key x) (inl refl),
    inr (inl (record {
      rule = _;
      choice = _;
      fits = record { rule = refl; arguments = refl; written = inr (inl refl); leveled = refl; holds = tt };
      undeclared = refl;
      level_is = refl;
      no_code = refl;
      type_is = (_, refl, (refl, (first_type.1, tt)));
    })),
  ),
)

types_differ : text_type ≢ two_types text_type text_type
types_differ e = cc

-- X = X: nothing to begin with
abbrev circular : EnabledGrammar
circular = rules (untyped "X" (default (id "X" ∷ []) ∷ []) ∷ [])

circular_untyped : (t : GroundType) → IsGrounded circular x t → ⊥
circular_untyped t h = let e : None ≡ Some t = type-in-table circular [] (key x ∷ []) refl x t h in cc

-- X with no alternative, X with an empty one
abbrev without_alternatives : EnabledGrammar
without_alternatives = rules (untyped "X" [] ∷ [])

nothing_untyped : (t : GroundType) → IsGrounded without_alternatives x t → ⊥
nothing_untyped t h = let e : None ≡ Some t = type-in-table without_alternatives [] (key x ∷ []) refl x t h in cc

abbrev empty_alternative : EnabledGrammar
empty_alternative = rules (untyped "X" (default [] ∷ []) ∷ [])

empty_tuple : IsGrounded empty_alternative x (GroundType.tuple GroundTypes.none)
empty_tuple = (
  1,
  (
    reached-in empty_alternative 0 (key x) (inl refl),
    inr (inl (record {
      rule = _;
      choice = _;
      fits = record { rule = refl; arguments = refl; written = inl refl; leveled = refl; holds = tt };
      undeclared = refl;
      level_is = refl;
      no_code = refl;
      type_is = refl;
    })),
  ),
)

-- E = { L1 "n" with user code, L2 "m" }: level 1 has no type, level 2 has that of "m"
abbrev by_levels : EnabledGrammar
by_levels = rules (untyped "E" (with (level "1" ∷ []) (lit "n" ∷ []) ∷ default_with (level "2" ∷ []) (lit "m" ∷ []) ∷ [])
    ∷ [])

abbrev e_at : ℕ → Closed
e_at n = of_rule "E" (Some n)

level_untyped : (t : GroundType) → IsGrounded by_levels (e_at 1) t → ⊥
level_untyped t h =
    let e : None ≡ Some t = type-in-table by_levels ((e_at 2, text_type) ∷ []) (key (e_at 1) ∷ key (e_at 2)
    ∷ []) refl (e_at 1) t h in
    cc

level_typed : IsGrounded by_levels (e_at 2) text_type
level_typed = (
  2,
  (
    reached-in by_levels 0 (key (e_at 2)) (inr (inl refl)),
    inr (inl (record {
      rule = _;
      choice = _;
      fits = record { rule = refl; arguments = refl; written = inr (inl refl); leveled = refl; holds = tt };
      undeclared = refl;
      level_is = refl;
      no_code = refl;
      type_is = refl;
    })),
  ),
)

-- E = { L1 "n", L2 "m" with user code }: a pass-down gives the tighter level's type
abbrev passed_down : EnabledGrammar
passed_down = rules (untyped "E" (default_with (level "1" ∷ []) (lit "n" ∷ []) ∷ with (level "2" ∷ []) (lit "m" ∷ []) ∷ [])
    ∷ [])

tightest_typed : IsGrounded passed_down (e_at 1) text_type
tightest_typed = (
  2,
  (
    reached-in passed_down 0 (key (e_at 1)) (inl refl),
    inr (inl (record {
      rule = _;
      choice = _;
      fits = record { rule = refl; arguments = refl; written = inl refl; leveled = refl; holds = tt };
      undeclared = refl;
      level_is = refl;
      no_code = refl;
      type_is = refl;
    })),
  ),
)

passes_type_down : IsGrounded passed_down (e_at 2) text_type
unfolding tightest_typed
passes_type_down = (
  3,
  (
    reached-in passed_down 0 (key (e_at 2)) (inr (inl refl)),
    inr (inr (record {
      rule = _;
      is_rule = refl;
      undeclared = refl;
      from = 2;
      to = 1;
      from_is = refl;
      to_is = refl;
      type_is = tightest_typed.1;
    })),
  ),
)

-- X = <"a"> "b": the chosen one's type
abbrev chosen : EnabledGrammar
chosen = rules (untyped "X" (default (Sym.choose here (lit "a") ∷ in_group (lit "b" ∷ lit "c" ∷ []) ∷ []) ∷ []) ∷ [])

abbrev b_c : Closed
b_c = Closed.group (Closeds.more (Closed.terminal (Terminal.quoted (codes "b")))
    (Closeds.more (Closed.terminal (Terminal.quoted (codes "c"))) Closeds.none))

only_chosen : (t : GroundType) → IsGrounded chosen x t → Some text_type ≡ Some t
only_chosen t h =
    type-in-table chosen ((x, text_type) ∷ (b_c, two_types text_type text_type) ∷ []) (key x ∷ key b_c ∷ []) refl x t h

-- X = "a"* "a"? M<"a">; M<T>: T = "b" with user code; repeats, options and a parameter's type
abbrev a : Closed
a = Closed.terminal (Terminal.quoted (codes "a"))

abbrev m_of_a : Closed
m_of_a = Closed.call (codes "M") (Closeds.more a Closeds.none) None

abbrev several : EnabledGrammar
several = rules (untyped "X" (default (many_of (lit "a") ∷ maybe (lit "a") ∷ of_macro "M" (lit "a" ∷ []) ∷ []) ∷ [])
    ∷ rule_typed "M" ("T" ∷ []) (Some (Ty.id (codes "T"))) (alt (lit "b" ∷ []) ∷ []) ∷ [])

abbrev vec_type : GroundType
vec_type = GroundType.nominal (codes "Vec") (GroundTypes.more text_type GroundTypes.none)

abbrev option_type : GroundType
option_type = GroundType.nominal (codes "Option") (GroundTypes.more text_type GroundTypes.none)

abbrev all_three : GroundType
all_three = GroundType.tuple (GroundTypes.more vec_type (GroundTypes.more option_type (GroundTypes.more text_type GroundTypes.none)))

tuple_of_three : (t : GroundType) → IsGrounded several x t → Some all_three ≡ Some t
tuple_of_three t h =
    type-in-table several ((x, all_three) ∷ (Closed.repeat Op.star a, vec_type) ∷ (Closed.repeat Op.plus a, vec_type)
    ∷ (Closed.repeat Op.question a, option_type) ∷ (m_of_a, text_type) ∷ [])
    (key x ∷ key (Closed.repeat Op.star a) ∷ key (Closed.repeat Op.plus a) ∷ key (Closed.repeat Op.question a) ∷ key m_of_a ∷ [])
    refl x t h

-- X: Y<#Id*#> = "a"; Id = "i": what stands in a declared type alone has no type, so X has none
abbrev in_type_alone : EnabledGrammar
in_type_alone = rules (rule_typed "X" [] (Some (Ty.nominal (codes "Y") (Tys.more (Ty.of_symbol (many_of (id "Id"))) Tys.none)))
    (alt (lit "a" ∷ []) ∷ []) ∷ untyped "Id" (default (lit "i" ∷ []) ∷ []) ∷ [])

in_type_alone_untyped : (t : GroundType) → IsGrounded in_type_alone x t → ⊥
in_type_alone_untyped t h =
    let e : None ≡ Some t = type-in-table in_type_alone ((of_rule "Id" None, text_type) ∷ [])
    (key x ∷ key (of_rule "Id" None) ∷ []) refl x t h in
    cc

-- where an alternative has it too, it has one: X: Y<#Id*#> = Id*
abbrev in_type_too : EnabledGrammar
in_type_too = rules (rule_typed "X" [] (Some (Ty.nominal (codes "Y") (Tys.more (Ty.of_symbol (many_of (id "Id"))) Tys.none)))
    (alt (many_of (id "Id") ∷ []) ∷ []) ∷ rule_typed "Id" [] (Some (Ty.opaque (codes "I"))) (default (lit "i" ∷ []) ∷ []) ∷ [])

abbrev ids : Closed
ids = Closed.repeat Op.star (of_rule "Id" None)

abbrev y_of_ids : GroundType
y_of_ids = GroundType.nominal (codes "Y") (GroundTypes.more
    (GroundType.nominal (codes "Vec") (GroundTypes.more (GroundType.opaque (codes "I")) GroundTypes.none)) GroundTypes.none)

declared_type : IsGrounded in_type_too x y_of_ids
declared_type = (
  3,
  (
    reached-in in_type_too 0 (key x) (inl refl),
    inl (record {
      rule = _;
      is_rule = refl;
      written = _;
      declared = refl;
      type_is = (
        _,
        refl,
        (
          (
            reached-in in_type_too 1 (key ids) (inr (inr (inl refl))),
            _,
            refl,
            (
              reached-in in_type_too 0 (key (of_rule "Id" None)) (inr (inl refl)),
              inl (record {
                rule = _;
                is_rule = refl;
                written = _;
                declared = refl;
                type_is = refl;
              }),
            ),
          ),
          tt,
        ),
      );
    }),
  ),
)

-- X: #"x"# = "a": a literal in a type has a text's type, and is in no right side
abbrev literal_in_type : EnabledGrammar
literal_in_type = rules (rule_typed "X" [] (Some (Ty.of_symbol (lit "x"))) (alt (lit "a" ∷ []) ∷ []) ∷ [])

literal_typed : IsGrounded literal_in_type x text_type
literal_typed = (
  2,
  (
    reached-in literal_in_type 0 (key x) (inl refl),
    inl (record {
      rule = _;
      is_rule = refl;
      written = _;
      declared = refl;
      type_is = refl;
    }),
  ),
)

-- the symbol of error recovery has none, and a lookaround has one where it is in an alternative
recovery_untyped : (g : EnabledGrammar) (t : GroundType) → IsGrounded g (Closed.terminal Terminal.error) t → ⊥
recovery_untyped g t (zero, h) = h
recovery_untyped g t (suc k, h) = h

abbrev looking : EnabledGrammar
looking = rules (untyped "X" (default (Sym.lookahead here ∷ []) ∷ []) ∷ [])

lookahead_typed : IsGrounded looking Closed.lookahead place_type
lookahead_typed = (1, (reached-in looking 1 (key Closed.lookahead) (inr (inl refl)), refl))

lookbehind_untyped : (t : GroundType) → IsGrounded looking Closed.lookbehind t → ⊥
lookbehind_untyped t h =
    let e : None ≡ Some t = type-in-table looking ((x, place_type) ∷ (Closed.lookahead, place_type) ∷ [])
    (key x ∷ key Closed.lookahead ∷ []) refl Closed.lookbehind t h in
    cc

-- E: Box<#E#> = { L1 "n", L2 "m" }: in a type the loosest level is meant, also in the rule's own; it would be its own part
abbrev own_type : EnabledGrammar
own_type = rules (rule_typed "E" [] (Some (Ty.nominal (codes "Box") (Tys.more (Ty.of_symbol (id "E")) Tys.none)))
    (with (level "1" ∷ []) (lit "n" ∷ []) ∷ with (level "2" ∷ []) (lit "m" ∷ []) ∷ []) ∷ [])

own_part_untyped : (t : GroundType) → IsGrounded own_type (e_at 1) t → ⊥
own_part_untyped t h =
    let e : None ≡ Some t = type-in-table own_type [] (key (e_at 1) ∷ key (e_at 2) ∷ []) refl (e_at 1) t h in cc
