-- A computed example: `pub S = "a"`, whose expansion is LR(1) and has three sets of valid items, and whose only sentence is one letter.
use Prim.Native.String.{String}
use Rattle.std.proofs.Common.{◌≡◌, ℕ, List, [], ◌∷◌, ◌++◌, refl, ap, sym, ◌∙◌, subst, inl, inr, Option, None, Some, ◌⊎◌}
use Rattle.std.proofs.Common.{Bool, rules, true, false, arith, length, Contains}
use Rattle.std.specs.Fmt.{digits}
use Rattle.std.specs.Prelude.{codes, map}
use Rattle.lalrpop_grammar_symbols.specs.Symbols.{Argument, Closed, Closeds, Op, Terminal, Text, WrittenSymbol}
use Rattle.lalrpop_grammar.specs.WrittenGrammar.{Action, Alternative, Attr, Grammar, Origin, Ty, Tys, WrittenItem}
use Rattle.lalrpop_grammar.specs.Trees.{Token, Tree, Trees}
use Rattle.lalrpop_grammar_language.specs.Admitting.{Admits, AdmitsAll, AdmitsFrom, IsAtPlace, argument_list, bind}
use Rattle.lalrpop_grammar_language.specs.Among.{Among}
use Rattle.lalrpop_grammar_language.specs.Closing.{right_side}
use Rattle.lalrpop_grammar_language.specs.Enabled.{Choice, EnabledGrammar, EnabledRule, IsRule, at_places, enabled_grammar}
use Rattle.lalrpop_grammar_language.specs.Expansion.{InExpansion, Nonterminal, Produces, RightSide}
use Rattle.lalrpop_grammar_language.specs.Levels.{Rank, ranked_choices}
use Rattle.lalrpop_grammar_language.specs.Sentences.{IsSentence}
use Rattle.lalrpop_grammar_language.proofs.WrittenTreeLemmas.{alt, finds, grammar, here, lit, nd, texts}
use Rattle.lalrpop_norm_theory.specs.Inlined.{IsInlined}
use Rattle.lalrpop_norm_theory.specs.Keys.{leveled_key_text}
use Rattle.lalrpop_norm_theory.specs.NamesByUse.{IsNamingByUse}
use Rattle.lalrpop_norm_theory.proofs.ExpansionListLemmas.{all-of}
use Rattle.lalrpop_norm_theory.proofs.NamingListLemmas.{name_by, naming-is}
use Rattle.lalrpop_norm_theory.proofs.ProductionListLemmas.{is_production, listed}
use Rattle.lalrpop_norm_theory.proofs.RowListLemmas.{reached-each}
use Rattle.lalrpop_norm_theory.proofs.UsedListLemmas.{keys-by-use}
use Rattle.lalrpop_grammar_language.specs.Labels.{Inlinings, Label}
use Rattle.lalrpop_grammar_language.specs.Inlining.{Inlines, InlinesAll}
use Rattle.lalrpop_lr1_theory.specs.Answers.{IsLr1}
use Rattle.lalrpop_lr1_theory.specs.Productions.{Production}
use Rattle.lalrpop_lr1_theory.specs.States.{HasEdge, HasItem, Reduces}
use Rattle.lalrpop_lr1_theory.specs.ValidItems.{CountsItemSets}
use Rattle.lalrpop_lr1_theory.proofs.CheckedLemmas.{checked_automaton}
use Rattle.lalrpop_lr1_theory.proofs.CountLemmas.{canonical_counted}
use Rattle.lalrpop_lr1_theory.proofs.ExampleLemmas as letters
use Rattle.lalrpop_lr1_theory.proofs.ExamplesOfCanonicalStates.{three_canonical}
use Rattle.lalrpop_lr1_theory.proofs.ExamplesOfCheckedStates.{three_checked}
use Rattle.lalrpop_lr1_theory.proofs.ExamplesOfStates.{a_given, its_production, letter_s, letter_start, none_is_barren, one_letter}
use Rattle.lalrpop_lr1_theory.proofs.ExamplesOfStates.{s_is_a, start_given, starts_s, three_states}
use Rattle.lalrpop_lr1_theory.proofs.ListLemmas.{contains_split}
use Rattle.lalrpop_lr1_theory.proofs.ValidMoveLemmas.{lr1_from_automaton}
use Rattle.lalrpop_run_theory.specs.Expansions.{StandsForInlined, theory_side}
use Rattle.lalrpop_run_theory.specs.ExpansionTrees.{is_inlined_nonterminal}
use Rattle.lalrpop_run_theory.specs.TextAnswers.{AreExpansionOf, terminals_of_tokens}
use Rattle.lalrpop_run_theory.proofs.ExamplesOfExpansions.{I, L, end, kept, label_at, n, name, one_start, place, production}
use Rattle.lalrpop_run_theory.proofs.ExamplesOfExpansions.{rule, start, t}
use Rattle.lalrpop_run_theory.proofs.ExamplesOfExpansions as written
use Rattle.lalrpop_run_theory.proofs.InlinedTestLemmas.{inlined_decided}
use Rattle.lalrpop_run.proofs.AlikeLemmas.{AlikeSides, Correspond, converse, lr1_alike}
use Rattle.lalrpop_run.proofs.ItemAlikeLemmas.{count_alike}

-- what the test doesn't find is kept
pub kept_where_unmarked : (g : EnabledGrammar) (x : Nonterminal) → is_inlined_nonterminal g x ≡ false → IsInlined g x → ⊥
kept_where_unmarked g x e h = let wrong : false ≡ true = sym e ∙ (inlined_decided g x).0 h in cc

-- a rule whose alternatives tell their places, and which declares the type of their code, `()`: without it a pass would tell that it has
-- no type; what is said of the examples leaves both out
abbrev pub unit_rule : Bool → List Attr → String → List String → List Alternative → WrittenItem
unit_rule public attributes s parameters alternatives = WrittenItem.nonterminal (record {
  public = public;
  name = codes s;
  attributes = attributes;
  span = here;
  parameters = texts parameters;
  declared = Some (Ty.tuple Tys.none);
  alternatives = map (λ p. record p.1 { origin = p.0 }) (at_places (codes s) 0 alternatives);
})

abbrev pub public_rule : String → List Alternative → WrittenItem
public_rule s alternatives = unit_rule true [] s [] alternatives

abbrev pub private_rule : String → List Alternative → WrittenItem
private_rule s alternatives = unit_rule false [] s [] alternatives

-- S = "a", public or private
abbrev pub word_of : Bool → Grammar
word_of public = grammar (unit_rule public [] "S" [] (alt (lit "a" ∷ []) ∷ []) ∷ [])

abbrev pub one_word : Grammar
one_word = word_of true

abbrev pub g : EnabledGrammar
g = enabled_grammar finds [] one_word

abbrev pub a : Terminal
a = Terminal.quoted (codes "a")

-- its expansion has two labels

abbrev nonterminals : List Nonterminal
nonterminals = start ∷ rule "S" ∷ []

pub there : (x : Nonterminal) → Among nonterminals x → InExpansion g x
there = reached-each g 2 nonterminals refl

abbrev pub by_start : L
by_start = Label.choose start Origin.start (kept end)

abbrev pub by_S : L
by_S = Label.choose (rule "S") (place "S" 0) (kept end)

abbrev pub Has : Nonterminal → L → RightSide → Type 0
Has x l side = Inlines (Produces g) (IsInlined g) x l side

pub from_start : Has start by_start (n (rule "S") ∷ [])
from_start = (
  refl,
  _,
  is_production g start Origin.start (n (rule "S") ∷ []) (inl refl),
  (kept_where_unmarked g (rule "S") refl, [], refl, refl),
)

pub from_S : Has (rule "S") by_S (t "a" ∷ [])
from_S = (refl, _, is_production g (rule "S") (place "S" 0) (t "a" ∷ []) (inl refl), (tt, [], refl, refl))

abbrev Choices : Type 0
Choices = Origin × RightSide

abbrev IsKept : RightSide → I → RightSide → Type 0
IsKept before inlinings side = InlinesAll (Produces g) (IsInlined g) before inlinings side

kept_letter : (inlinings : I) (side : RightSide) → IsKept (t "a" ∷ []) inlinings side → (inlinings ≡ kept end) × (side ≡ t "a" ∷ [])
kept_letter Inlinings.none side h = absurd h
kept_letter (Inlinings.inlined l inlinings) side h = absurd h
kept_letter (Inlinings.kept Inlinings.none) side h = (refl, h.2 ∙ ap (λ z. t "a" ∷ z) h.3)
kept_letter (Inlinings.kept (Inlinings.kept inlinings)) side h = absurd h.3
kept_letter (Inlinings.kept (Inlinings.inlined l inlinings)) side h = absurd h.3

-- the start has one label, and so has `S`
label_of_start : (l : L) (side : RightSide) → Has start l side → (l ≡ by_start) × (side ≡ n (rule "S") ∷ [])
label_of_start =
    one_start g (rule "S") (kept_where_unmarked g (rule "S") refl) (λ o side m. listed g start o side m)

label_of_S : (l : L) (side : RightSide) → Has (rule "S") l side → (l ≡ by_S) × (side ≡ t "a" ∷ [])
label_of_S (Label.choose z o inlinings) side h = go (listed g (rule "S") o h.1 h.2)
  where
    go : Among {A = Choices} ((place "S" 0, t "a" ∷ []) ∷ []) (o, h.1) → (Label.choose z o inlinings ≡ by_S) × (side ≡ t "a" ∷ [])
    go (inr i) = absurd i
    go (inl e) =
        let choice : place "S" 0 ≡ o = ap (λ (c : Choices). c.0) e in
        let before : t "a" ∷ [] ≡ h.1 = ap (λ (c : Choices). c.1) e in
        let r = kept_letter inlinings side (subst (λ b. IsKept b inlinings side) (sym before) h.3) in (
          ap (λ x. Label.choose x o inlinings) h.0 ∙ ap (λ c. Label.choose (rule "S") c inlinings) (sym choice)
              ∙ ap (Label.choose (rule "S") (place "S" 0)) r.0,
          r.1,
        )

-- so it is these two productions
abbrev pub of_start : Production
of_start = production "__S" (name "S" ∷ []) 0

abbrev pub of_S : Production
of_S = production "S" (written.word "a" ∷ []) 1

abbrev pub two : List Production
two = of_start ∷ of_S ∷ []

abbrev labels : ℕ → L
labels = label_at by_start (by_start ∷ by_S ∷ [])

abbrev pub names : Nonterminal → Text
names = name_by (leveled_key_text g) (codes "__") []

abbrev IsEither : Production → Type 0
IsEither p = (of_start ≡ p) ⊎ (of_S ≡ p)

one_of_two : (p : Production) → Contains two p → IsEither p
one_of_two p c = go (contains_split of_start p (of_S ∷ []) c)
  where
    last : (of_S ≡ p) ⊎ Contains [] p → IsEither p
    last (inl e) = inr e
    last (inr d) = absurd (omega (arith, d.1))

    go : (of_start ≡ p) ⊎ Contains (of_S ∷ []) p → IsEither p
    go (inl e) = inl e
    go (inr d) = last (contains_split of_S p [] d)

-- each is one of them
pub has_start : Contains two of_start
has_start = (0, omega arith, refl)

pub has_S : Contains two of_S
has_S = (1, omega arith, refl)

abbrev Stands : Production → Nonterminal → L → RightSide → Type 0
Stands p x l side = StandsForInlined g (IsInlined g) names labels p x l side

stands : (p : Production) (x : Nonterminal) (l : L) (side : RightSide) → Among nonterminals x → Has x l side →
    p.left ≡ names x → p.right ≡ theory_side names side → labels p.action ≡ l → Stands p x l side
stands p x l side i h left right label =
    record { in_expansion = there x i; produced = h; left_is = left; right_is = right; label_is = label }

-- its names are given in order of first use
pub word_naming : IsNamingByUse (leveled_key_text g) (codes "__") g names
unfolding digits
word_naming = record {
  naming = naming-is g (leveled_key_text g) (codes "__") [] 2 nonterminals refl refl refl;
  levels = tt;
  others = [];
  in_order = keys-by-use g [] refl;
  numbered = tt;
}

-- they are the productions of the expansion
pub two_are : AreExpansionOf finds [] one_word two
unfolding digits
two_are = record {
  name_of = names;
  naming = word_naming.naming;
  label_of = labels;
  every = λ x l side i h. at x l side (all-of g nonterminals refl x i) h;
  no_other = λ p c. its_label p (one_of_two p c);
  once = λ p q c d e. one p q (one_of_two p c) (one_of_two q d) e;
}
  where
    Found : Nonterminal → L → RightSide → Type 0
    Found x l side = (p : Production) × Contains two p × Stands p x l side

    at_start : (l : L) (side : RightSide) → Has start l side → Found start l side
    at_start l side h =
        let r = label_of_start l side h in
        (of_start, has_start, stands of_start start l side (inl refl) h refl (ap (theory_side names) (sym r.1)) (sym r.0))

    at_S : (l : L) (side : RightSide) → Has (rule "S") l side → Found (rule "S") l side
    at_S l side h =
        let r = label_of_S l side h in
        (of_S, has_S, stands of_S (rule "S") l side (inr (inl refl)) h refl (ap (theory_side names) (sym r.1)) (sym r.0))

    at : (x : Nonterminal) (l : L) (side : RightSide) → Among nonterminals x → Has x l side → Found x l side
    at x l side (inl e) h = subst (λ y. Found y l side) e (at_start l side (subst (λ y. Has y l side) (sym e) h))
    at x l side (inr (inl e)) h = subst (λ y. Found y l side) e (at_S l side (subst (λ y. Has y l side) (sym e) h))
    at x l side (inr (inr i)) h = absurd i

    HasLabel : Production → Type 0
    HasLabel p = (x : Nonterminal) × (l : L) × (side : RightSide) × Stands p x l side

    its_label : (p : Production) → IsEither p → HasLabel p
    its_label p (inl e) = subst HasLabel e (start, by_start, _, stands of_start start by_start _ (inl refl) from_start refl refl refl)
    its_label p (inr e) = subst HasLabel e (rule "S", by_S, _, stands of_S (rule "S") by_S _ (inr (inl refl)) from_S refl refl refl)

    apart : by_start ≡ by_S → ⊥
    apart e =
        let heads : start ≡ rule "S" = cc in
        cc

    one : (p q : Production) → IsEither p → IsEither q → labels p.action ≡ labels q.action → p ≡ q
    one p q (inl x) (inl y) e = sym x ∙ y
    one p q (inr x) (inr y) e = sym x ∙ y
    one p q (inl x) (inr y) e =
        absurd (apart (ap (λ (z : Production). labels z.action) x ∙ e ∙ ap (λ (z : Production). labels z.action) (sym y)))
    one p q (inr x) (inl y) e =
        absurd (apart (ap (λ (z : Production). labels z.action) y ∙ sym e ∙ ap (λ (z : Production). labels z.action) (sym x)))

-- under other names they are those whose three canonical states stand among the examples of the theory
abbrev AreNames : Text → Text → Type 0
AreNames b c = ((b ≡ letters.name letter_start) × (c ≡ codes "__S")) ⊎ ((b ≡ letters.name letter_s) × (c ≡ codes "S"))

abbrev AreSame : Production → Production → Type 0
AreSame p q = ((p ≡ starts_s) × (q ≡ of_start)) ⊎ ((p ≡ s_is_a) × (q ≡ of_S))

letters_apart : letters.name letter_start ≡ letters.name letter_s → ⊥
letters_apart e = omega (arith, letters.name_same letter_start letter_s e)

names_apart : codes "__S" ≡ codes "S" → ⊥
names_apart e = let lengths : ◌≡◌ {A = ℕ} 3 1 = ap length e in omega (arith, lengths)

known_apart : starts_s ≡ s_is_a → ⊥
known_apart e = let numbers : ◌≡◌ {A = ℕ} 0 1 = ap (λ (z : Production). z.action) e in omega (arith, numbers)

own_apart : of_start ≡ of_S → ⊥
own_apart e = let numbers : ◌≡◌ {A = ℕ} 0 1 = ap (λ (z : Production). z.action) e in omega (arith, numbers)

correspond : Correspond (Contains one_letter) (Contains two) AreNames AreSame
correspond = record {
  name_one = name_one;
  name_back = name_back;
  one = one;
  back = back;
  left = left;
  right = right;
  over = over;
  over_back = over_back;
  there = λ p c. known p (its_production p c);
  there_back = λ q c. own q (one_of_two q c);
}
  where
    name_one : (b c d : Text) → AreNames b c → AreNames b d → c ≡ d
    name_one b c d (inl h) (inl k) = h.1 ∙ sym k.1
    name_one b c d (inr h) (inr k) = h.1 ∙ sym k.1
    name_one b c d (inl h) (inr k) = absurd (letters_apart (sym h.0 ∙ k.0))
    name_one b c d (inr h) (inl k) = absurd (letters_apart (sym k.0 ∙ h.0))

    name_back : (b c d : Text) → AreNames b d → AreNames c d → b ≡ c
    name_back b c d (inl h) (inl k) = h.0 ∙ sym k.0
    name_back b c d (inr h) (inr k) = h.0 ∙ sym k.0
    name_back b c d (inl h) (inr k) = absurd (names_apart (sym h.1 ∙ k.1))
    name_back b c d (inr h) (inl k) = absurd (names_apart (sym k.1 ∙ h.1))

    one : (p q r : Production) → AreSame p q → AreSame p r → q ≡ r
    one p q r (inl h) (inl k) = h.1 ∙ sym k.1
    one p q r (inr h) (inr k) = h.1 ∙ sym k.1
    one p q r (inl h) (inr k) = absurd (known_apart (sym h.0 ∙ k.0))
    one p q r (inr h) (inl k) = absurd (known_apart (sym k.0 ∙ h.0))

    back : (p q r : Production) → AreSame p r → AreSame q r → p ≡ q
    back p q r (inl h) (inl k) = h.0 ∙ sym k.0
    back p q r (inr h) (inr k) = h.0 ∙ sym k.0
    back p q r (inl h) (inr k) = absurd (own_apart (sym h.1 ∙ k.1))
    back p q r (inr h) (inl k) = absurd (own_apart (sym k.1 ∙ h.1))

    left : (p q : Production) → AreSame p q → AreNames p.left q.left
    left p q (inl h) = inl (ap (λ (z : Production). z.left) h.0, ap (λ (z : Production). z.left) h.1)
    left p q (inr h) = inr (ap (λ (z : Production). z.left) h.0, ap (λ (z : Production). z.left) h.1)

    right : (p q : Production) → AreSame p q → AlikeSides AreNames p.right q.right
    right p q (inl h) =
        subst (λ (z : Production). AlikeSides AreNames p.right z.right) (sym h.1)
        (subst (λ (z : Production). AlikeSides AreNames z.right of_start.right) (sym h.0) (inr (refl, refl), tt))
    right p q (inr h) =
        subst (λ (z : Production). AlikeSides AreNames p.right z.right) (sym h.1)
        (subst (λ (z : Production). AlikeSides AreNames z.right of_S.right) (sym h.0) (refl, tt))

    over : (p q : Production) → AreSame p q → Contains two q
    over p q (inl h) = subst (Contains two) (sym h.1) has_start
    over p q (inr h) = subst (Contains two) (sym h.1) has_S

    over_back : (p q : Production) → AreSame p q → Contains one_letter p
    over_back p q (inl h) = subst (Contains one_letter) (sym h.0) start_given
    over_back p q (inr h) = subst (Contains one_letter) (sym h.0) a_given

    known : (p : Production) → (starts_s ≡ p) ⊎ (s_is_a ≡ p) → (q : Production) × AreSame p q
    known p (inl e) = (of_start, inl (sym e, refl))
    known p (inr e) = (of_S, inr (sym e, refl))

    own : (q : Production) → IsEither q → (p : Production) × AreSame p q
    own q (inl e) = (starts_s, inl (refl, sym e))
    own q (inr e) = (s_is_a, inr (refl, sym e))

-- so they are LR(1), and have three sets of valid items
pub two_lr1 : IsLr1 (Contains two) (codes "__S")
two_lr1 =
    lr1_alike (Contains two) (Contains one_letter) (λ b c. AreNames c b) (λ p q. AreSame q p)
    (converse (Contains one_letter) (Contains two) AreNames AreSame correspond) (codes "__S") (letters.name letter_start)
    (inl (refl, refl))
    (lr1_from_automaton (Contains one_letter) (letters.name letter_start) (HasItem three_states) (HasEdge three_states)
    (Reduces three_states) (checked_automaton one_letter (letters.name letter_start) three_states three_checked).automaton)

pub two_counted : CountsItemSets (Contains two) (codes "__S") 3
two_counted =
    count_alike (Contains one_letter) (Contains two) AreNames AreSame correspond (letters.name letter_start) (codes "__S")
    (inl (refl, refl)) 3
    (canonical_counted one_letter (letters.name letter_start) three_states three_canonical none_is_barren)

-- its trees

-- one leaf of a token
record IsLetter (kids : Trees) (tokens : List Token) : Type 0 where
  pub token : Token
  pub letter : token.terminal ≡ a
  pub tokens_are : tokens ≡ token ∷ []
  pub kids_are : kids ≡ Trees.more (Tree.terminal token) Trees.none

leaf_of_letter : (kids : Trees) (tokens : List Token) → AdmitsAll g (Closed.terminal a ∷ []) kids tokens → IsLetter kids tokens
leaf_of_letter Trees.none tokens h = absurd h
leaf_of_letter (Trees.more u (Trees.more v us)) tokens h = absurd h.4
leaf_of_letter (Trees.more (Tree.rule name args at us) Trees.none) tokens h =
    let clash : Closed.terminal a ≡ Closed.call name h.3.given h.3.level = h.3.symbol_is in
    cc
leaf_of_letter (Trees.more (Tree.list us) Trees.none) tokens h =
    let clash : Closed.terminal a ≡ Closed.repeat h.3.0 h.3.1 = h.3.2 in
    cc
leaf_of_letter (Trees.more Tree.opt_none Trees.none) tokens h =
    let clash : Closed.terminal a ≡ Closed.repeat Op.question h.3.0 = h.3.1 in
    cc
leaf_of_letter (Trees.more (Tree.opt_some u) Trees.none) tokens h =
    let clash : Closed.terminal a ≡ Closed.repeat Op.question h.3.0 = h.3.1 in
    cc
leaf_of_letter (Trees.more (Tree.group us) Trees.none) tokens h =
    let clash : Closed.terminal a ≡ Closed.group h.3.0 = h.3.1 in
    cc
leaf_of_letter (Trees.more Tree.look Trees.none) tokens h = search rules
leaf_of_letter (Trees.more (Tree.terminal k) Trees.none) tokens h =
    let same : Closed.terminal a ≡ Closed.terminal k.terminal = h.3.0 in
    let letter : k.terminal ≡ a = cc in
    record {
      token = k;
      letter = letter;
      tokens_are = h.2 ∙ ap (λ z. z ++ h.1) h.3.1 ∙ ap (λ z. k ∷ z) h.4;
      kids_are = refl;
    }

-- an alternative of these symbols, at its place
abbrev pub choice_at : String → ℕ → List WrittenSymbol → Choice
choice_at s k symbols =
    record { origin = place s k; expr = symbols; condition = None; action = Action.user (codes "()"); attributes = [] }

-- its rule and its alternative
abbrev pub the_choice : Choice
the_choice = choice_at "S" 0 (lit "a" ∷ [])

abbrev pub rule_of_word : Bool → EnabledRule
rule_of_word public = record {
  name = codes "S";
  public = public;
  inlined = false;
  parameters = [];
  declared = Some (Ty.tuple Tys.none);
  choices = the_choice ∷ [];
}

-- each tree of it is that of one letter
pub record IsTreeOfLetter (u : Tree) (tokens : List Token) : Type 0 where
  pub token : Token
  pub letter : token.terminal ≡ a
  pub tokens_are : tokens ≡ token ∷ []
  pub tree_is : u ≡ nd "S" 0 (Tree.terminal token ∷ [])

-- a tree by the only alternative of the rule
of_choice : (at : ℕ) (kids : Trees) (tokens : List Token) (choice : Choice × Option Rank) →
    Among {A = Choice × Option Rank} ((the_choice, None) ∷ []) choice → IsAtPlace (codes "S") at choice.0 →
    AdmitsAll g (right_side g (rule_of_word true) [] choice) kids tokens → IsTreeOfLetter (Tree.rule (codes "S") [] at kids) tokens
of_choice at kids tokens choice (inr i) given children = absurd i
of_choice at kids tokens choice (inl e) given children =
    let origins : place "S" 0 ≡ place "S" at = ap (λ (c : Choice × Option Rank). c.0.origin) e ∙ given in
    let number : 0 ≡ at = cc in
    let own = subst (λ c. AdmitsAll g (right_side g (rule_of_word true) [] c) kids tokens) (sym e) children in
    let letter = leaf_of_letter kids tokens own in
    record {
      token = letter.token;
      letter = letter.letter;
      tokens_are = letter.tokens_are;
      tree_is = ap (λ z. Tree.rule (codes "S") [] z kids) (sym number) ∙ ap (Tree.rule (codes "S") [] 0) letter.kids_are;
    }

-- and by the only rule
of_rule : (name : Text) (args : List Argument) (at : ℕ) (kids : Trees) (tokens : List Token) (given : Closeds) (rule : EnabledRule)
    (choice : Choice × Option Rank) → codes "S" ≡ name → Closeds.none ≡ given → args ≡ argument_list g.spelled given →
    IsRule g name rule → Among (ranked_choices rule) choice → IsAtPlace name at choice.0 →
    AdmitsAll g (right_side g rule (bind rule given) choice) kids tokens → IsTreeOfLetter (Tree.rule name args at kids) tokens
of_rule name args at kids tokens given rule choice name_is given_is args_are is_rule written own children =
    let alone : (rule_of_word true) ∷ [] ≡ rule ∷ [] = subst (λ z. IsRule g z rule) (sym name_is) is_rule in
    let rule_is : (rule_of_word true) ≡ rule = cc in
    let no_args : args ≡ [] = args_are ∙ ap (argument_list g.spelled) (sym given_is) in
    let below = subst (λ z. AdmitsAll g (right_side g z (bind z Closeds.none) choice) kids tokens) (sym rule_is)
    (subst (λ z. AdmitsAll g (right_side g rule (bind rule z) choice) kids tokens) (sym given_is) children) in
    let listed = subst (λ z. Among (ranked_choices z) choice) (sym rule_is) written in
    let placed = subst (λ z. IsAtPlace z at choice.0) (sym name_is) own in
    let made = of_choice at kids tokens choice listed placed below in
    record {
      token = made.token;
      letter = made.letter;
      tokens_are = made.tokens_are;
      tree_is = ap (λ z. Tree.rule z args at kids) (sym name_is) ∙ ap (λ z. Tree.rule (codes "S") z at kids) no_args ∙ made.tree_is;
    }

abbrev S_symbol : Option ℕ → Closed
S_symbol level = Closed.call (codes "S") Closeds.none level

admitted_of_S : (level : Option ℕ) (u : Tree) (tokens : List Token) → Admits g (S_symbol level) u tokens → IsTreeOfLetter u tokens
admitted_of_S level (Tree.list us) tokens h =
    let clash : S_symbol level ≡ Closed.repeat h.0 h.1 = h.2 in
    cc
admitted_of_S level Tree.opt_none tokens h =
    let clash : S_symbol level ≡ Closed.repeat Op.question h.0 = h.1 in
    cc
admitted_of_S level (Tree.opt_some u) tokens h =
    let clash : S_symbol level ≡ Closed.repeat Op.question h.0 = h.1 in
    cc
admitted_of_S level (Tree.group us) tokens h =
    let clash : S_symbol level ≡ Closed.group h.0 = h.1 in
    cc
admitted_of_S level Tree.look tokens h = search rules
admitted_of_S level (Tree.terminal k) tokens h =
    let clash : S_symbol level ≡ Closed.terminal k.terminal = h.0 in
    cc
admitted_of_S level (Tree.rule name args at kids) tokens h =
    let heads : S_symbol level ≡ Closed.call name h.given h.level = h.symbol_is in
    let name_is : codes "S" ≡ name = cc in
    let given_is : Closeds.none ≡ h.given = cc in
    of_rule name args at kids tokens h.given h.rule h.choice name_is given_is h.args_are h.fits.rule h.fits.written h.at h.children

pub tree_of_letter : (u : Tree) (tokens : List Token) → AdmitsFrom finds [] one_word (codes "S") u tokens → IsTreeOfLetter u tokens
tree_of_letter u tokens h = admitted_of_S _ u tokens h.admits

-- so no tokens have two
pub one_tree_each : (u v : Tree) (tokens : List Token) → AdmitsFrom finds [] one_word (codes "S") u tokens →
    AdmitsFrom finds [] one_word (codes "S") v tokens → u ≡ v
one_tree_each u v tokens h k =
    let x = tree_of_letter u tokens h in
    let y = tree_of_letter v tokens k in
    let tokens_same : x.token ∷ [] ≡ y.token ∷ [] = sym x.tokens_are ∙ y.tokens_are in
    let same : x.token ≡ y.token = cc in
    x.tree_is ∙ ap (λ z. nd "S" 0 (Tree.terminal z ∷ [])) same ∙ sym y.tree_is

-- and sentences are one letter
pub sentence_is_letter : (tokens : List Token) → IsSentence finds [] one_word (codes "S") tokens →
    terminals_of_tokens tokens ≡ a ∷ []
sentence_is_letter tokens s =
    let h = tree_of_letter s.0 tokens s.1 in
    ap terminals_of_tokens h.tokens_are ∙ ap (λ z. z ∷ []) h.letter
