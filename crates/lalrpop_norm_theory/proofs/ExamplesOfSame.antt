-- Computed examples of what a pass keeps, of which nonterminals are inlined, and passes that are refused.
use Prim.Native.String.{String}
use Rattle.std.specs.Fmt.{digits}
use Rattle.std.proofs.Common.{◌≡◌, List, [], ◌∷◌, ◌++◌, refl, ap, sym, ◌∙◌, true, false, inl, inr}
use Rattle.std.proofs.Common.{◌⊎◌}
use Rattle.std.specs.Prelude.{None, codes}
use Rattle.std.proofs.lemmas.Bool.{true≢false}
use Rattle.lalrpop_grammar_symbols.specs.Symbols.{Closed, Closeds, Terminal, WrittenSymbol, Sym, Argument, Op}
use Rattle.lalrpop_grammar_symbols.specs.Texts.{escape_byte}
use Rattle.lalrpop_grammar.specs.WrittenGrammar.{Attr, Alternative, WrittenItem, Origin}
use Rattle.lalrpop_grammar_language.specs.Among.{Among}
use Rattle.lalrpop_grammar_language.specs.Enabled.{EnabledGrammar, enabled_grammar}
use Rattle.lalrpop_grammar_language.specs.Expansion.{Nonterminal, InExpansion}
use Rattle.lalrpop_grammar_language.proofs.WrittenTreeLemmas.{here, lit, id, of_macro, many_of, alt, rule_of, rule_with, macro_of, grammar}
use Rattle.lalrpop_grammar_language.proofs.WrittenTreeLemmas.{finds}
use Rattle.lalrpop_norm_theory.specs.Between.{grammar_between}
use Rattle.lalrpop_norm_theory.specs.Inlined.{IsInlined}
use Rattle.lalrpop_norm_theory.specs.Keys.{leveled_key_text}
use Rattle.lalrpop_norm_theory.specs.Same.{SameExpansion}
use Rattle.lalrpop_norm_theory.proofs.ClosedComparisonLemmas.{same_nonterminal}
use Rattle.lalrpop_norm_theory.proofs.ExpansionListLemmas.{reached-in, all-of}
use Rattle.lalrpop_norm_theory.proofs.SameListLemmas.{same-expansion}

abbrev a : Closed
a = Closed.terminal (Terminal.quoted (codes "a"))

abbrev nonterminal : String → WrittenSymbol
nonterminal n = Sym.nonterminal here (codes n)

abbrev key : String → Nonterminal
key n = Nonterminal.closed (Closed.call (codes n) Closeds.none None)

-- an alternative that tells its choice
abbrev by_choice : Origin → List WrittenSymbol → Alternative
by_choice o symbols = record (alt symbols) { origin = o }

-- a rule that is private
abbrev private_rule : String → List Alternative → WrittenItem
private_rule n alternatives = WrittenItem.nonterminal (record {
  public = false;
  name = codes n;
  attributes = [];
  span = here;
  parameters = [];
  declared = None;
  alternatives = alternatives;
})

abbrev quoted_a : List Argument
quoted_a = Sym.terminal tt (Terminal.quoted (codes "a")) ∷ []

-- S = M<"a">*; M<T> = { T, "b" }
abbrev before : EnabledGrammar
before = enabled_grammar finds [] (grammar (rule_of "S" (alt (many_of (of_macro "M" (lit "a" ∷ [])) ∷ []) ∷ [])
    ∷ macro_of "M" ("T" ∷ []) (alt (id "T" ∷ []) ∷ alt (lit "b" ∷ []) ∷ []) ∷ []))

-- its macro and its repeat expanded, and what else is there
abbrev expanded_with : List WrittenItem → EnabledGrammar
expanded_with items = grammar_between finds (grammar (
    rule_of "S" (by_choice (Origin.alternative (codes "S") [] 0) (nonterminal "M<\"a\">*" ∷ []) ∷ [])
    ∷ private_rule "M<\"a\">*" (by_choice Origin.star_none [] ∷ by_choice Origin.star_some (nonterminal "M<\"a\">+" ∷ []) ∷ [])
    ∷ private_rule "M<\"a\">+" (by_choice Origin.plus_one (nonterminal "M<\"a\">" ∷ [])
    ∷ by_choice Origin.plus_more (nonterminal "M<\"a\">+" ∷ nonterminal "M<\"a\">" ∷ []) ∷ [])
    ∷ private_rule "M<\"a\">" (by_choice (Origin.alternative (codes "M") quoted_a 0) (lit "a" ∷ [])
    ∷ by_choice (Origin.alternative (codes "M") quoted_a 1) (lit "b" ∷ []) ∷ []) ∷ items))

abbrev to_keys : Nonterminal → Nonterminal
to_keys (Nonterminal.start n) = Nonterminal.start n
to_keys (Nonterminal.closed x) = Nonterminal.closed (Closed.call (leveled_key_text before x) Closeds.none None)

abbrev instance : Closed
instance = Closed.call (codes "M") (Closeds.more a Closeds.none) None

macros_expanded : SameExpansion before (expanded_with []) to_keys
unfolding digits escape_byte
macros_expanded = same-expansion before (expanded_with []) to_keys 3 (Nonterminal.start (codes "S") ∷ key "S"
    ∷ Nonterminal.closed (Closed.repeat Op.star instance) ∷ Nonterminal.closed (Closed.repeat Op.plus instance)
    ∷ Nonterminal.closed instance ∷ [])
    (Nonterminal.start (codes "S") ∷ key "S" ∷ key "M<\"a\">*" ∷ key "M<\"a\">+" ∷ key "M<\"a\">" ∷ []) (λ n. refl)
    refl refl refl refl refl

-- S = "a"
abbrev single : EnabledGrammar
single = enabled_grammar finds [] (grammar (rule_of "S" (alt (lit "a" ∷ []) ∷ []) ∷ []))

-- the same with an instance that nothing reaches
abbrev idle : EnabledGrammar
idle = grammar_between finds (grammar (rule_of "S" (by_choice (Origin.alternative (codes "S") [] 0) (lit "a" ∷ []) ∷ [])
    ∷ private_rule "M<\"x\">" (by_choice (Origin.alternative (codes "M") quoted_a 0) (lit "b" ∷ []) ∷ []) ∷ []))

-- is refused, whatever is renamed
idle_refused : (to : Nonterminal → Nonterminal) → SameExpansion single idle to → ⊥
idle_refused to w =
    let instance_is = only (key "M<\"x\">") (apart_from_start "M<\"x\">")
    (w.no_other (key "M<\"x\">") (reached-in idle 0 (key "M<\"x\">") (inr (inr (inl refl))))) in
    let rule_is = only (key "S") (apart_from_start "S") (w.no_other (key "S") (reached-in idle 0 (key "S") (inr (inl refl)))) in
    let same : key "M<\"x\">" ≡ key "S" = instance_is ∙ sym rule_is in
    let test : false ≡ true = ap (λ x. same_nonterminal x (key "S")) same in
    true≢false (sym test)
  where
    apart_from_start : (n : String) → key n ≡ Nonterminal.start (codes "S") → ⊥
    apart_from_start n e = cc

    one_of : (y x : Nonterminal) → (y ≡ Nonterminal.start (codes "S") → ⊥) → y ≡ to x →
        Among (Nonterminal.start (codes "S") ∷ key "S" ∷ []) x → y ≡ to (key "S")
    one_of y x no_start e (inl f) = absurd (no_start (e ∙ ap to (sym f) ∙ w.starts (codes "S")))
    one_of y x no_start e (inr (inl f)) = e ∙ ap to (sym f)
    one_of y x no_start e (inr (inr i)) = absurd i

    only : (y : Nonterminal) → (y ≡ Nonterminal.start (codes "S") → ⊥) →
        (x : Nonterminal) × InExpansion single x × (y ≡ to x) →
        y ≡ to (key "S")
    only y no_start x =
        one_of y x.0 no_start x.2 (all-of single (Nonterminal.start (codes "S") ∷ key "S" ∷ []) refl x.0 x.1)

-- #[inline] I = "i"; #[inline] M<T> = T; R = "r"
abbrev inline_rules : EnabledGrammar
inline_rules = enabled_grammar finds [] (grammar (rule_with (Attr.empty here (codes "inline") ∷ []) "I" [] (alt (lit "i" ∷ []) ∷ [])
    ∷ rule_with (Attr.empty here (codes "inline") ∷ []) "M" ("T" ∷ []) (alt (id "T" ∷ []) ∷ [])
    ∷ rule_of "R" (alt (lit "r" ∷ []) ∷ []) ∷
    []))

inlined_rule : IsInlined inline_rules (key "I")
inlined_rule = (_, refl, refl)

inlined_instance : IsInlined inline_rules (Nonterminal.closed instance)
inlined_instance = (_, refl, refl)

star_inlined : IsInlined inline_rules (Nonterminal.closed (Closed.repeat Op.star a))
star_inlined = tt

option_inlined : IsInlined inline_rules (Nonterminal.closed (Closed.repeat Op.question a))
option_inlined = tt

group_inlined : IsInlined inline_rules (Nonterminal.closed (Closed.group (Closeds.more a Closeds.none)))
group_inlined = tt

lookarounds_inlined : IsInlined inline_rules (Nonterminal.closed Closed.lookahead)
    × IsInlined inline_rules (Nonterminal.closed Closed.lookbehind)
lookarounds_inlined = (tt, tt)

plus_not_inlined : IsInlined inline_rules (Nonterminal.closed (Closed.repeat Op.plus a)) → ⊥
plus_not_inlined h = h

start_not_inlined : IsInlined inline_rules (Nonterminal.start (codes "I")) → ⊥
start_not_inlined h = h

unmarked_not_inlined : IsInlined inline_rules (key "R") → ⊥
unmarked_not_inlined h =
    let e = ap marks h.1 in
    let f : false ≡ true = e ∙ h.2 in
    true≢false (sym f)
  where
    marks : List Rattle.lalrpop_grammar_language.specs.Enabled.EnabledRule → Rattle.std.proofs.Common.Bool
    marks [] = true
    marks (r ∷ rs) = r.inlined
