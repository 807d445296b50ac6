-- What a name or a call stands for, where the name stands for one rule: for the closing of names and calls.
use Rattle.std.proofs.Common.{◌≡◌, ◌≢◌, ℕ, List, [], ◌∷◌, Option, refl, ap, sym, ◌∙◌, map, length}
use Rattle.std.proofs.lemmas.Bool.{eq-eqb, ne_eqb}
use Rattle.std.proofs.lemmas.List.{length-map}
use Rattle.std.specs.Prelude.{◌==◌, if◌then◌else◌}
use Rattle.lalrpop_grammar_symbols.specs.Symbols.{Text, Closed, Closeds, closed_list}
use Rattle.lalrpop_grammar_symbols.specs.declared.names.NonterminalString.{NonterminalString}
use Rattle.lalrpop_grammar_language.specs.Enabled.{EnabledGrammar, EnabledRule, has_text, rules_named}
use Rattle.lalrpop_grammar_language.specs.Closing.{Scope, call_level, if_plain, if_macro, name_meaning, name_meaning_in, plain_name}
use Rattle.lalrpop_grammar_language.specs.Closing.{plain_call, Meaning}
use Rattle.lalrpop_grammar_symbols.specs.declared.atom.Atom.{Atom}
use Rattle.lalrpop_grammar_rules.specs.declared.closed.closed_symbol.ClosedSymbol.{ClosedSymbol, fold-roll-ClosedSymbol}
use Rattle.lalrpop_grammar_rules.specs.declared.closed.closed_symbol.ClosedSymbol.TheVariants as variant
use Rattle.lalrpop_grammar_rules.specs.declared.closed.closed_symbol.ClosedSymbol.TheOpen as layer
use Rattle.lalrpop_grammar_rules.specs.Views.{closed_view, closed_step, closeds}
use Rattle.lalrpop_grammar_rules.proofs.ArgumentLemmas.{closed_list-closeds}

-- a name that stands for one rule means it
pub means_rule : (g : EnabledGrammar) (n : Text) (r : EnabledRule) → rules_named g n ≡ r ∷ [] → name_meaning g n ≡ Meaning.rule r
means_rule g n r only = ap (λ rs. name_meaning_in rs (has_text n g.bares)) only

plain_none : (ps : List NonterminalString) (c : Closed) → ps ≡ [] → if_plain (map (λ n. n.0) ps) c ≡ c
plain_none [] c e = refl
plain_none (p ∷ ps) c e = absurd (cc)

plain_some : (ps : List NonterminalString) (c : Closed) → (ps ≡ [] → ⊥) → if_plain (map (λ n. n.0) ps) c ≡ Closed.faulty
plain_some [] c e = absurd (e refl)
plain_some (p ∷ ps) c e = refl

macro_none : (ps : List NonterminalString) (args : Closeds) (c : Closed) → ps ≡ []
    → if_macro (map (λ n. n.0) ps) args c ≡ Closed.faulty
macro_none [] args c e = refl
macro_none (p ∷ ps) args c e = absurd (cc)

if_equal : (a b : ℕ) (c : Closed) → a ≡ b → (if a == b then c else Closed.faulty) ≡ c
if_equal a b c e = rw (eq-eqb a b e) refl

if_differs : (a b : ℕ) (c : Closed) → a ≢ b → (if a == b then c else Closed.faulty) ≡ Closed.faulty
if_differs a b c e = rw (ne_eqb a b e) refl

how_many : (args : List ClosedSymbol) → length (closed_list (closeds (map closed_view args))) ≡ length args
how_many args = ap length (closed_list-closeds (map closed_view args)) ∙ length-map args closed_view

macro_short : (ps : List NonterminalString) (args : List ClosedSymbol) (c : Closed) → length args ≢ length ps
    → if_macro (map (λ n. n.0) ps) (closeds (map closed_view args)) c ≡ Closed.faulty
macro_short [] args c e = refl
macro_short (p ∷ ps) args c e =
    if_differs (length (closed_list (closeds (map closed_view args)))) (length (map (λ (n : NonterminalString). n.0) (p ∷ ps))) c
    (λ same. e (sym (how_many args) ∙ same ∙ length-map (p ∷ ps) (λ (n : NonterminalString). n.0)))

macro_full : (ps : List NonterminalString) (args : List ClosedSymbol) (c : Closed) → (ps ≡ [] → ⊥) → length args ≡ length ps
    → if_macro (map (λ n. n.0) ps) (closeds (map closed_view args)) c ≡ c
macro_full [] args c some e = absurd (some refl)
macro_full (p ∷ ps) args c some e =
    if_equal (length (closed_list (closeds (map closed_view args)))) (length (map (λ (n : NonterminalString). n.0) (p ∷ ps))) c
    (how_many args ∙ e ∙ sym (length-map (p ∷ ps) (λ (n : NonterminalString). n.0)))

module _ (s : Scope) (k : ℕ) (n : Text) (r : EnabledRule) (ps : List NonterminalString) (names : r.parameters ≡ map (λ p. p.0) ps)
    (only : rules_named s.grammar n ≡ r ∷ []) where
  means : name_meaning s.grammar n ≡ Meaning.rule r
  means = means_rule s.grammar n r only

  -- a macro that is named without arguments is faulty
  pub name_refused : (ps ≡ [] → ⊥) → Closed.faulty ≡ plain_name s k n (name_meaning s.grammar n)
  name_refused some =
      sym (ap (plain_name s k n) means ∙ ap (λ q. if_plain q (Closed.call n Closeds.none (call_level s k n r))) names
      ∙ plain_some ps (Closed.call n Closeds.none (call_level s k n r)) some)

  pub name_given : (level : Option ℕ) → ps ≡ [] → level ≡ call_level s k n r
      → Closed.call n Closeds.none level ≡ plain_name s k n (name_meaning s.grammar n)
  name_given level none at =
      ap (λ l. Closed.call n Closeds.none l) at
      ∙ sym (ap (plain_name s k n) means ∙ ap (λ q. if_plain q (Closed.call n Closeds.none (call_level s k n r))) names
      ∙ plain_none ps (Closed.call n Closeds.none (call_level s k n r)) none)

  module _ (args : List ClosedSymbol) where
    whole : (c : Closed) → if_macro (map (λ p. p.0) ps) (closeds (map closed_view args))
        (Closed.call n (closeds (map closed_view args)) (call_level s k n r)) ≡ c
        → c ≡ plain_call s k n (closeds (map closed_view args)) (name_meaning s.grammar n)
    whole c e =
        sym (ap (plain_call s k n (closeds (map closed_view args))) means
        ∙ ap (λ q. if_macro q (closeds (map closed_view args)) (Closed.call n (closeds (map closed_view args)) (call_level s k n r)))
        names ∙ e)

    pub call_of_plain : ps ≡ [] → Closed.faulty ≡ plain_call s k n (closeds (map closed_view args)) (name_meaning s.grammar n)
    call_of_plain none = whole Closed.faulty
        (macro_none ps (closeds (map closed_view args)) (Closed.call n (closeds (map closed_view args)) (call_level s k n r)) none)

    -- a call with too many or too few arguments is faulty
    pub call_refused : length args ≢ length ps
        → Closed.faulty ≡ plain_call s k n (closeds (map closed_view args)) (name_meaning s.grammar n)
    call_refused other = whole Closed.faulty
        (macro_short ps args (Closed.call n (closeds (map closed_view args)) (call_level s k n r)) other)

    -- a call with as many arguments as parameters is a call of the rule, with the level that it carries
    pub call_given : (level : Option ℕ) → (ps ≡ [] → ⊥) → length args ≡ length ps → level ≡ call_level s k n r
        → Closed.call n (closeds (map closed_view args)) level
        ≡ plain_call s k n (closeds (map closed_view args)) (name_meaning s.grammar n)
    call_given level some full at =
        ap (λ l. Closed.call n (closeds (map closed_view args)) l) at
        ∙ whole (Closed.call n (closeds (map closed_view args)) (call_level s k n r))
        (macro_full ps args (Closed.call n (closeds (map closed_view args)) (call_level s k n r)) some full)

-- the program's faulty symbol is seen as faulty
pub seen-Faulty : closed_view variant.Faulty ≡ Closed.faulty
seen-Faulty = ap closed_view (sym variant.rolls-Faulty) ∙ fold-roll-ClosedSymbol Closed closed_step layer.Faulty

-- the program's call is seen as a call
pub seen-Call : (n : Atom) (args : List ClosedSymbol) (level : Option ℕ)
    → closed_view (variant.Call n args level) ≡ Closed.call n (closeds (map closed_view args)) level
seen-Call n args level =
    ap closed_view (sym (variant.rolls-Call n args level)) ∙ fold-roll-ClosedSymbol Closed closed_step (layer.Call n args level)
