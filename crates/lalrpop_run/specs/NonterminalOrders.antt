-- In which order the inlined nonterminals of an expansion are inlined: by name, depth first, those that one names before it, last named
-- first.
use Rattle.std.specs.Prelude.{ℕ, ◌<◌, ◌≡◌, ◌↔◌, List, [], ◌∷◌, ◌++◌, Some, flat_map, if◌then◌else◌, map, reverse, slice_get}
use Rattle.std.specs.List.Sorted.{IsStrictlySortedBy}
use Rattle.lalrpop_grammar_symbols.specs.Symbols.{Text}
use Rattle.lalrpop_grammar.specs.WrittenGrammar.{Origin}
use Rattle.lalrpop_grammar_language.specs.Among.{Among}
use Rattle.lalrpop_grammar_language.specs.Enabled.{EnabledGrammar}
use Rattle.lalrpop_grammar_language.specs.Expansion.{GrammarSymbol, InExpansion, Nonterminal, Produces, RightSide}
use Rattle.lalrpop_norm_theory.specs.Inlined.{IsInlined}
use Rattle.lalrpop_norm_theory.specs.Productions.{IsOriginBefore}
use Rattle.lalrpop_run_theory.specs.ExpansionTrees.{is_inlined_nonterminal}
use Rattle.lalrpop_run.specs.ConflictOrders.{compare_texts}

-- a choice and what it produces
pub record ChosenSide : Type 0 where
  pub choice : Origin
  pub side : RightSide

-- what the nonterminal produces before inlining, in the order of its choices
pub record AreChosenSides (g : EnabledGrammar) (x : Nonterminal) (all : List ChosenSide) : Type 0 where
  pub each : (o : Origin) (side : RightSide) → Produces g x o side ↔ Among all (record { choice = o; side = side })
  pub ordered : (i j : ℕ) (a b : ChosenSide) → i < j → slice_get all i ≡ Some a → slice_get all j ≡ Some b
      → IsOriginBefore a.choice b.choice

-- the inlined nonterminals on a right side, from left to right
abbrev pub inlined_on : EnabledGrammar → RightSide → List Nonterminal
inlined_on g [] = []
inlined_on g (GrammarSymbol.nonterminal x ∷ side) =
    if is_inlined_nonterminal g x then x ∷ inlined_on g side else inlined_on g side
inlined_on g (GrammarSymbol.terminal t ∷ side) = inlined_on g side

-- those that the nonterminal's productions name, one production after another
abbrev pub AreInlinedNamed : EnabledGrammar → Nonterminal → List Nonterminal → Type 0
AreInlinedNamed g x names =
    (all : List ChosenSide) × AreChosenSides g x all × (names ≡ flat_map (λ (c : ChosenSide). inlined_on g c.side) all)

-- A walk over nonterminals, one after another: one was met before; or it is met for the first time, and then first what it names is
-- walked, and then what follows.
pub data NonterminalWalk : Type 0 where
  no_more : NonterminalWalk
  met_before : NonterminalWalk → NonterminalWalk
  met_first : Nonterminal → NonterminalWalk → NonterminalWalk → NonterminalWalk

-- those that the walk meets for the first time, each behind what it names
abbrev pub walked_nonterminals : NonterminalWalk → List Nonterminal
walked_nonterminals NonterminalWalk.no_more = []
walked_nonterminals (NonterminalWalk.met_before rest) = walked_nonterminals rest
walked_nonterminals (NonterminalWalk.met_first x inside rest) = walked_nonterminals inside ++ x ∷ walked_nonterminals rest

-- a walk over these nonterminals, where the others were met before; of what one names the last is walked first
abbrev pub IsNonterminalWalk : EnabledGrammar → List Nonterminal → List Nonterminal → NonterminalWalk → Type 0
IsNonterminalWalk g before [] NonterminalWalk.no_more = Unit {0}
IsNonterminalWalk g before [] (NonterminalWalk.met_before rest) = ⊥
IsNonterminalWalk g before [] (NonterminalWalk.met_first y inside rest) = ⊥
IsNonterminalWalk g before (x ∷ xs) NonterminalWalk.no_more = ⊥
IsNonterminalWalk g before (x ∷ xs) (NonterminalWalk.met_before rest) = Among before x × IsNonterminalWalk g before xs rest
IsNonterminalWalk g before (x ∷ xs) (NonterminalWalk.met_first y inside rest) =
    (y ≡ x) × (Among before x → ⊥)
    × ((names : List Nonterminal)
    × ((all : List ChosenSide) × AreChosenSides g x all × (names ≡ flat_map (λ (c : ChosenSide). inlined_on g c.side) all))
    × IsNonterminalWalk g before (reverse names) inside)
    × IsNonterminalWalk g (before ++ walked_nonterminals inside ++ x ∷ []) xs rest

-- the order in which a walk over the inlined nonterminals, by their names, meets them
pub record IsNonterminalOrder (g : EnabledGrammar) (name_of : Nonterminal → Text) (order : List Nonterminal) : Type 0 where
  pub firsts : List Nonterminal
  pub each : (x : Nonterminal) → Among firsts x ↔ (InExpansion g x × IsInlined g x)
  pub by_name : IsStrictlySortedBy compare_texts (map name_of firsts)
  pub walk : NonterminalWalk
  pub is_walk : IsNonterminalWalk g [] firsts walk
  pub order_is : walked_nonterminals walk ≡ order
