-- One step of inlining further on, and a look further among rules: for the function that takes the steps.
use Rattle.std.proofs.Common.{◌≡◌, ◌+◌, ◌≤◌, ◌∙◌, ℕ, List, [], ◌∷◌, ap}
use Rattle.std.proofs.Common.{refl, sym, subst, arith, length, true, false, cond, length-append, map}
use Rattle.std.specs.Prelude.{All, Bool, Some}
use Rattle.std.specs.Map.{keys_of}
use Rattle.std.specs.Ordering.{is_eq}
use Rattle.std.specs.Str.{bytes_eq}
use Rattle.std.proofs.lemmas.Slice.Eq.{bytes_eq-Decides}
use Rattle.lalrpop_grammar_symbols.specs.Symbols.{Text}
use Rattle.lalrpop_grammar_symbols.specs.contracts.names.NonterminalStringOrd.TheImpl as names
use Rattle.lalrpop_grammar_symbols.specs.declared.names.NonterminalString.{NonterminalString}
use Rattle.lalrpop_grammar_repr.specs.Maps.{at_name}
use Rattle.lalrpop_grammar_repr.specs.Productions.{productions_in}
use Rattle.lalrpop_grammar_repr.specs.declared.action.ActionFnDefn.{ActionFnDefn}
use Rattle.lalrpop_grammar_repr.specs.declared.action.InlinedSymbol.{InlinedSymbol}
use Rattle.lalrpop_grammar_repr.specs.declared.production.NonterminalData.{NonterminalData}
use Rattle.lalrpop_grammar_repr.specs.declared.production.Production.{Production}
use Rattle.lalrpop_lr1_inline.specs.InlinedNames.{NonterminalEntries, name_of_text}
use Rattle.lalrpop_lr1_inline.specs.InliningSteps.{AreInlineDefinitions, AreInlineSteps}
use Rattle.lalrpop_lr1_inline.specs.InliningSteps.{IsInlineStep, all_records_after, entries_after}
use Rattle.lalrpop_lr1_inline.specs.InliningSteps.{numbers_after, productions_named}
use Rattle.lalrpop_lr1_inline.proofs.AfterStepLemmas.{AreBelow, entries_below, keys_after}
use Rattle.lalrpop_grammar_symbols.proofs.NameLemmas.{same_name}

abbrev Entry : Type 0
Entry = NonterminalString × NonterminalData

-- what is found under the name at the front, where that is the name and where it isn't
pub looked_by : (n : Text) (e : Entry) (rest : NonterminalEntries) (b : Bool) → is_eq ((names.ghosts).cmp (name_of_text n) e.0) ≡ b →
    productions_named (e ∷ rest) n ≡ productions_in (cond b (Some e.1) (at_name (name_of_text n) rest))
looked_by n e rest b f = ap (λ t. productions_in (cond t (Some e.1) (at_name (name_of_text n) rest))) f

-- under the name of the first entry the productions of that entry are found
pub looked_here : (n : Text) (e : Entry) (rest left : NonterminalEntries) → left ≡ e ∷ rest → e.0.0 ≡ n →
    productions_named left n ≡ e.1.productions
looked_here n e rest left one same =
    ap (λ l. productions_named l n) one
    ∙ looked_by n e rest true ((same_name (name_of_text n) e.0).1 (ap name_of_text (sym same)))

-- under a name other than the first entry's there is found what the rest has under it
pub looked_on : (n : Text) (e : Entry) (rest left : NonterminalEntries) → left ≡ e ∷ rest → (e.0.0 ≡ n → ⊥) →
    productions_named left n ≡ productions_named rest n
looked_on n e rest left one apart =
    ap (λ l. productions_named l n) one ∙ go (is_eq ((names.ghosts).cmp (name_of_text n) e.0)) refl
  where
    go : (b : Bool) → is_eq ((names.ghosts).cmp (name_of_text n) e.0) ≡ b →
        productions_named (e ∷ rest) n ≡ productions_named rest n
    go true f = absurd (apart (ap (λ (x : NonterminalString). x.0) (sym ((same_name (name_of_text n) e.0).0 f))))
    go false f = looked_by n e rest false f

-- a bytewise test that answered
pub same_bytes : (a b : Text) → bytes_eq a b ≡ true → a ≡ b
same_bytes a b e = (bytes_eq-Decides a b).0 e

-- texts that a bytewise test tells apart aren't the same
pub other_bytes : (a b : Text) → bytes_eq a b ≡ false → a ≡ b → ⊥
other_bytes a b e same = (let wrong : false ≡ true = sym e ∙ (bytes_eq-Decides a b).1 same in cc)

-- numbers are never taken back
pub numbers_grow : (ns : List Text) (es : NonterminalEntries) (k : ℕ) → k ≤ numbers_after ns es k
numbers_grow [] es k = omega arith
numbers_grow (n ∷ ns) es k =
    let more = numbers_grow ns (entries_after n (productions_named es n) es k)
    (k + length (all_records_after n (productions_named es n) es)) in
    omega (arith, more)

-- as many actions are added as records were made
definitions_many : (actions : List ActionFnDefn) (ms : List (Production × List InlinedSymbol)) (ds : List ActionFnDefn) →
    AreInlineDefinitions actions ms ds → length ds ≡ length ms
definitions_many actions [] [] h = refl
definitions_many actions [] (d ∷ ds) h = absurd h
definitions_many actions (m ∷ ms) [] h = absurd h
definitions_many actions (m ∷ ms) (d ∷ ds) h =
    let more = definitions_many actions ms ds h.1 in
    omega (arith, more)

pub step_counts : (n : Text) (es after : NonterminalEntries) (actions actions_after : List ActionFnDefn) →
    IsInlineStep n es actions after actions_after →
    length actions_after ≡ length actions + length (all_records_after n (productions_named es n) es)
step_counts n es after actions actions_after s =
    ap length s.actions_are ∙ length-append actions s.made
    ∙ ap (λ k. length actions + k) (definitions_many actions _ s.made s.are_definitions)

abbrev texts : List NonterminalString → List Text
texts order = map (λ n. n.0) order

-- the numbers of the next step fit
pub room_here : (n : NonterminalString) (rest left : List NonterminalString) (es : NonterminalEntries) (sources : List Production)
    (k m : ℕ) → left ≡ n ∷ rest → sources ≡ productions_named es n.0 → numbers_after (texts left) es k ≤ m →
    k + length (all_records_after n.0 sources es) ≤ m
room_here n rest left es sources k m one same room =
    let whole = ap (λ l. numbers_after (texts l) es k) one in
    let many = ap (λ s. length (all_records_after n.0 s es)) same in
    let more = numbers_grow (texts rest) (entries_after n.0 (productions_named es n.0) es k)
    (k + length (all_records_after n.0 (productions_named es n.0) es)) in
    omega (arith, whole, many, more, room)

-- and those of the steps behind it
pub room_on : (n : NonterminalString) (rest left : List NonterminalString) (es after : NonterminalEntries)
    (actions actions_after : List ActionFnDefn) (m : ℕ) → left ≡ n ∷ rest → IsInlineStep n.0 es actions after actions_after →
    numbers_after (texts left) es (length actions) ≤ m → numbers_after (texts rest) after (length actions_after) ≤ m
room_on n rest left es after actions actions_after m one s room =
    subst (λ k. k ≤ m)
    (ap (λ l. numbers_after (texts l) es (length actions)) one
    ∙ ap (λ k. numbers_after (texts rest) (entries_after n.0 (productions_named es n.0) es (length actions)) k)
    (sym (step_counts n.0 es after actions actions_after s))
    ∙ ap (λ a. numbers_after (texts rest) a (length actions_after)) (sym s.entries_are))
    room

-- after the step each action is one that there is then
pub known_on : (n : Text) (es after : NonterminalEntries) (actions actions_after : List ActionFnDefn) →
    IsInlineStep n es actions after actions_after → All (AreBelow (length actions)) es → All (AreBelow (length actions_after)) after
known_on n es after actions actions_after s below =
    let many = step_counts n es after actions actions_after s in
    let further : All (AreBelow (length actions_after)) es = λ k d h j p g. omega (arith, below k d h j p g, many) in
    subst (λ (a : NonterminalEntries). All (AreBelow (length actions_after)) a) (sym s.entries_are)
    (entries_below (length actions_after) n (productions_named es n) es (length actions) further (omega (arith, many)))

-- the steps with one more in front
pub steps_on : (n : NonterminalString) (rest left : List NonterminalString) (es mid after : NonterminalEntries)
    (actions actions_mid actions_after : List ActionFnDefn) → left ≡ n ∷ rest → IsInlineStep n.0 es actions mid actions_mid →
    AreInlineSteps (texts rest) mid actions_mid after actions_after → AreInlineSteps (texts left) es actions after actions_after
steps_on n rest left es mid after actions actions_mid actions_after one s more =
    subst (λ (l : List NonterminalString). AreInlineSteps (texts l) es actions after actions_after) (sym one)
    (mid, actions_mid, s, more)

-- entries after a step of inlining have the names that there were before it
pub names_on : (n : Text) (es after : NonterminalEntries) (actions actions_after : List ActionFnDefn) →
    IsInlineStep n es actions after actions_after → keys_of after ≡ keys_of es
names_on n es after actions actions_after s =
    ap keys_of s.entries_are ∙ keys_after n (productions_named es n) es (length actions)
