-- Entries of a grammar's maps that are looked at one after another: for the test whether a grammar has its terminals.
use Rattle.std.proofs.Common.{◌≡◌, ℕ, List, [], ◌∷◌, arith, Some, slice_get}
use Rattle.std.specs.List.{All}
use Rattle.std.specs.BTreeMap.{is_at}
use Rattle.std.proofs.lemmas.List.Elements.{All-cons, All-contains}
use Rattle.std.proofs.lemmas.Map.Views.{Contains-from_lookup}
use Rattle.lalrpop_grammar_symbols.specs.contracts.terminal.TerminalStringOrd.TheImpl as terminals
use Rattle.lalrpop_grammar_symbols.specs.declared.terminal.TerminalString.{TerminalString}
use Rattle.lalrpop_grammar_repr.specs.declared.grammar.Grammar.{Grammar}
use Rattle.lalrpop_grammar_repr.specs.declared.terminal_set.TerminalSet.{TerminalSet}
use Rattle.lalrpop_lr1_core.proofs.GraphLemmas.{in_flat}
use Rattle.lalrpop_lr1_core.specs.Numbering.{NumbersArePlaces}
use Rattle.lalrpop_lr1_core.specs.TheoryGrammars.{productions_of_grammar}
use Rattle.lalrpop_lr1_first.specs.Tables.{HasNumberedTerminal, HaveNumberedTerminals}
use Rattle.lalrpop_lr1_first.proofs.OrderLemmas.{exact_terminal}
use Rattle.lalrpop_plain_tables.specs.KnownTerminals.{AreKnownIn}
use Rattle.lalrpop_grammar_symbols.proofs.BoolLemmas.{is_equal}

-- where it is so of this one, what is left tells of the whole
pub rest_tells : {X : Type 0} (P : X → Type 0) (e : X) (left rest whole : List X) → left ≡ e ∷ rest → P e →
    (All P left → All P whole) → All P rest → All P whole
rest_tells P e left rest whole first here tells others =
    let both : All P (e ∷ rest) → All P whole = rw first at tells in both (All-cons P e rest here others)

-- where nothing is left
pub none_tells : {X : Type 0} (P : X → Type 0) (left whole : List X) → left ≡ [] → (All P left → All P whole) → All P whole
none_tells P left whole nothing tells =
    let at_end : All P [] → All P whole = rw nothing at tells in at_end (λ k d h. absurd (omega (arith, h)))

-- where each entry's number is its terminal's place, so is each number that is found
pub entries_tell : (ts : TerminalSet) → All (λ e. slice_get ts.all e.1 ≡ Some e.0) ts.bits → NumbersArePlaces ts
entries_tell ts all k t found =
    let entry = Contains-from_lookup {eq = λ q. is_at ((terminals.ghosts).cmp q)}
    (λ x y e. exact_terminal x y (is_equal ((terminals.ghosts).cmp x y) e)) t k ts.bits found in
    All-contains (λ (e : TerminalString × ℕ). slice_get ts.all e.1 ≡ Some e.0) ts.bits (t, k) all entry

-- where the terminals in the productions of each nonterminal are numbered, those in all are
pub known_tell : (g : Grammar) → All (λ e. AreKnownIn g.terminals e.1.productions) g.nonterminals →
    HaveNumberedTerminals g.terminals (productions_of_grammar g)
known_tell g all p c x d =
    let m = in_flat (λ e. e.1.productions) g.nonterminals p c in
    All-contains (HasNumberedTerminal g.terminals) p.symbols x
    (All-contains (λ q. All (HasNumberedTerminal g.terminals) q.symbols) m.0.1.productions p
    (All-contains (λ e. AreKnownIn g.terminals e.1.productions) g.nonterminals m.0 all m.1) m.2) d
