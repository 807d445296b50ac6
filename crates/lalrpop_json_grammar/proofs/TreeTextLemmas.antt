-- The text of an admitted tree tells the tree up to spans, and where its text ends; for prints_tell_trees_apart.
use Rattle.std.proofs.Common.{◌≡◌, ℕ, ◌<◌, ◌^◌, List, [], ◌∷◌, ◌++◌, refl, ap, sym, ◌∙◌, arith, subst}
use Rattle.std.proofs.Common.{append_assoc, map}
use Rattle.std.specs.Prelude.{codes, flat_map}
use Rattle.std.specs.Fmt.{decimal}
use Rattle.std.proofs.lemmas.List.{append_cancel_left}
use Rattle.lalrpop_grammar_symbols.specs.Symbols.{Text, Argument, Closed, Closeds, closed_list, Op}
use Rattle.lalrpop_grammar_symbols.specs.Texts.{symbol_text, join_texts}
use Rattle.lalrpop_grammar.specs.WrittenGrammar.{Origin}
use Rattle.lalrpop_grammar.specs.Trees.{Token, Tree, Trees}
use Rattle.lalrpop_json_grammar.specs.Printing.{tree_text, tree_texts, arguments_text, head_text, row_text}
use Rattle.lalrpop_grammar_language.specs.Enabled.{EnabledGrammar, EnabledRule}
use Rattle.lalrpop_grammar_language.specs.Closing.{right_side, inner}
use Rattle.lalrpop_grammar_language.specs.Admitting.{Admits, AdmitsAll, AdmitsEach, Fits, bind, argument_list}
use Rattle.lalrpop_grammar_language.proofs.PlaceLemmas.{PlacesApart}
use Rattle.lalrpop_json_grammar.specs.Printed.{AreNamed, PlacesFit, AllPlacesFit, tree_without_spans, trees_without_spans}
use Rattle.lalrpop_json_grammar.specs.Printed.{token_without_span}
use Rattle.lalrpop_json_grammar.proofs.FormLemmas.{Begins, begins_name_of, same_form}
use Rattle.lalrpop_json_grammar.proofs.NumberLemmas.{heads, tails, numbers_apart}
use Rattle.lalrpop_json_grammar.proofs.StringLemmas.{strings_apart}

-- the texts of trees with commas, and the commas and texts behind a first one
abbrev row_of : Trees → Text
row_of ts = join_texts (codes ", ") (tree_texts ts)

abbrev more_of : Trees → Text
more_of ts = flat_map (λ u. codes ", " ++ u) (tree_texts ts)

-- the text of an admitted tree has a first byte that closes nothing
begins : (g : EnabledGrammar) → AreNamed g → (x : Closed) (t : Tree) (tokens : List Token) → Admits g x t tokens
    → Begins (tree_text t)
begins g named x (Tree.rule n args p ts) tokens h =
    let first = begins_name_of n (named n h.rule h.fits.rule) in
    let behind : Text = arguments_text (map symbol_text args) in
    let row : Text = row_text (codes "(") (codes ")") (tree_texts ts) in
    record {
      first = first.first;
      rest = (((first.rest ++ behind) ++ codes "#") ++ decimal p) ++ row;
      text_is = ap (λ l. (((l ++ behind) ++ codes "#") ++ decimal p) ++ row) first.text_is;
      no_bracket = first.no_bracket;
      no_parenthesis = first.no_parenthesis;
    }
begins g named x (Tree.list ts) tokens h =
    record {
      first = 91;
      rest = row_of ts ++ codes "]";
      text_is = refl;
      no_bracket = λ e. omega (arith, e);
      no_parenthesis = λ e. omega (arith, e);
    }
begins g named x Tree.opt_none tokens h =
    record { first = 63; rest = codes "()"; text_is = refl; no_bracket = λ e. omega (arith, e); no_parenthesis = λ e. omega (arith, e) }
begins g named x (Tree.opt_some t) tokens h =
    record {
      first = 63;
      rest = codes "(" ++ tree_text t ++ codes ")";
      text_is = refl;
      no_bracket = λ e. omega (arith, e);
      no_parenthesis = λ e. omega (arith, e);
    }
begins g named x (Tree.group ts) tokens h =
    record {
      first = 40;
      rest = row_of ts ++ codes ")";
      text_is = refl;
      no_bracket = λ e. omega (arith, e);
      no_parenthesis = λ e. omega (arith, e);
    }
begins g named x (Tree.terminal k) tokens h =
    record { first = 34; rest = _; text_is = refl; no_bracket = λ e. omega (arith, e); no_parenthesis = λ e. omega (arith, e) }
begins g named x Tree.look tokens h =
    record { first = 64; rest = []; text_is = refl; no_bracket = λ e. omega (arith, e); no_parenthesis = λ e. omega (arith, e) }

-- the text of a node in its parts
opened : (n : Text) (args : List Text) (p : ℕ) (ts : Trees) (r : Text)
    → (head_text n args p ++ row_text (codes "(") (codes ")") (tree_texts ts)) ++ r
    ≡ n ++ (arguments_text args ++ (35 ∷ (decimal p ++ (40 ∷ (row_of ts ++ (41 ∷ r))))))
opened n args p ts r =
    let body : row_text (codes "(") (codes ")") (tree_texts ts) ++ r ≡ 40 ∷ (row_of ts ++ (41 ∷ r)) =
    ap (λ l. 40 ∷ l) (append_assoc (row_of ts) (41 ∷ []) r) in
    append_assoc (head_text n args p) (row_text (codes "(") (codes ")") (tree_texts ts)) r
    ∙ append_assoc ((n ++ arguments_text args) ++ (35 ∷ [])) (decimal p) (row_text (codes "(") (codes ")") (tree_texts ts) ++ r)
    ∙ append_assoc (n ++ arguments_text args) (35 ∷ []) (decimal p ++ (row_text (codes "(") (codes ")") (tree_texts ts) ++ r))
    ∙ append_assoc n (arguments_text args) (35 ∷ (decimal p ++ (row_text (codes "(") (codes ")") (tree_texts ts) ++ r)))
    ∙ ap (λ l. n ++ (arguments_text args ++ (35 ∷ (decimal p ++ l)))) body

-- nodes with one name and arguments: their places and children
node_cut : (n : Text) (args : List Argument) (m : Text) (bs : List Argument) (p q : ℕ) (ts us : Trees) (r s : Text) → n ≡ m
    → args ≡ bs → p < 2 ^ 32 → q < 2 ^ 32
    → (head_text n (map symbol_text args) p ++ row_text (codes "(") (codes ")") (tree_texts ts)) ++ r
    ≡ (head_text m (map symbol_text bs) q ++ row_text (codes "(") (codes ")") (tree_texts us)) ++ s
    → (p ≡ q) × (row_of ts ++ (41 ∷ r) ≡ row_of us ++ (41 ∷ s))
node_cut n given m bs p q ts us r s en ea hp hq e =
    let args : List Text = map symbol_text given in
    let other : n ++ (arguments_text args ++ (35 ∷ (decimal q ++ (40 ∷ (row_of us ++ (41 ∷ s))))))
    ≡ m ++ (arguments_text (map symbol_text bs) ++ (35 ∷ (decimal q ++ (40 ∷ (row_of us ++ (41 ∷ s)))))) =
    ap (λ l. l ++ (arguments_text args ++ (35 ∷ (decimal q ++ (40 ∷ (row_of us ++ (41 ∷ s))))))) en
    ∙ ap (λ l. m ++ (arguments_text (map symbol_text l) ++ (35 ∷ (decimal q ++ (40 ∷ (row_of us ++ (41 ∷ s))))))) ea in
    let whole = sym (opened n args p ts r) ∙ e ∙ opened m (map symbol_text bs) q us s ∙ sym other in
    let behind_name = append_cancel_left n (arguments_text args ++ (35 ∷ (decimal p ++ (40 ∷ (row_of ts ++ (41 ∷ r))))))
    (arguments_text args ++ (35 ∷ (decimal q ++ (40 ∷ (row_of us ++ (41 ∷ s)))))) whole in
    let behind = append_cancel_left (arguments_text args) (35 ∷ (decimal p ++ (40 ∷ (row_of ts ++ (41 ∷ r)))))
    (35 ∷ (decimal q ++ (40 ∷ (row_of us ++ (41 ∷ s))))) behind_name in
    numbers_apart p q (row_of ts ++ (41 ∷ r)) (row_of us ++ (41 ∷ s)) (omega (arith, hp)) (omega (arith, hq))
    (tails 35 35 (decimal p ++ (40 ∷ (row_of ts ++ (41 ∷ r)))) (decimal q ++ (40 ∷ (row_of us ++ (41 ∷ s)))) behind)

-- a row in brackets
row_cut : (o c : ℕ) (ts us : Trees) (r s : Text) → (o ∷ (row_of ts ++ (c ∷ []))) ++ r ≡ (o ∷ (row_of us ++ (c ∷ []))) ++ s
    → row_of ts ++ (c ∷ r) ≡ row_of us ++ (c ∷ s)
row_cut o c ts us r s e =
    sym (append_assoc (row_of ts) (c ∷ []) r)
    ∙ tails o o ((row_of ts ++ (c ∷ [])) ++ r) ((row_of us ++ (c ∷ [])) ++ s) e
    ∙ append_assoc (row_of us) (c ∷ []) s

-- what the call of a node names, and its arguments
record SameCall (g : EnabledGrammar) (n m : Text) (args brgs : List Argument) (given others : Closeds) : Type 0 where
  name : n ≡ m
  given_are : given ≡ others
  args_are : args ≡ brgs

same_call : (g : EnabledGrammar) (n m : Text) (args brgs : List Argument) (given others : Closeds) (l k : _)
    → Closed.call n given l ≡ Closed.call m others k
    → args ≡ argument_list g.spelled given → brgs ≡ argument_list g.spelled others → SameCall g n m args brgs given others
same_call g n m args brgs given others l k e a b =
    let same : given ≡ others = cc in
    record { name = cc; given_are = same; args_are = a ∙ ap (argument_list g.spelled) same ∙ sym b }

-- the children's symbols of two nodes of one symbol at one place
same_side : (g : EnabledGrammar) → PlacesApart g → (n m : Text) (given others : Closeds) (p q : ℕ) (r s : EnabledRule) (c d : _)
    → n ≡ m → given ≡ others → p ≡ q
    → Fits g n given r c → Fits g m others s d → c.0.origin ≡ Origin.alternative n [] p → d.0.origin ≡ Origin.alternative m [] q
    → right_side g s (bind s others) d ≡ right_side g r (bind r given) c
same_side g apart n m given others p q r s c d en eg ep fits other at place =
    let moved : Fits g n given s d = subst (λ z. Fits g z given s d) (sym en) (subst (λ z. Fits g m z s d) (sym eg) other) in
    let origins : c.0.origin ≡ d.0.origin =
    at ∙ ap (λ z. Origin.alternative z [] p) en ∙ ap (λ z. Origin.alternative m [] z) ep ∙ sym place in
    let same = apart n given r s c d fits moved origins in
    ap (λ z. right_side g s (bind s z) d) (sym eg) ∙ ap (λ z. right_side g z (bind z given) d) (sym same.0)
    ∙ ap (λ z. right_side g r (bind r given) z) (sym same.1)

leaf_same : (k l : Token) (x : Closed) → inner x ≡ Closed.terminal k.terminal → inner x ≡ Closed.terminal l.terminal
    → k.text ≡ l.text
    → Tree.terminal (token_without_span k) ≡ Tree.terminal (token_without_span l)
leaf_same k l x a b e =
    let terms : Closed.terminal k.terminal ≡ Closed.terminal l.terminal = sym a ∙ b in
    let term : k.terminal ≡ l.terminal = cc in
    rw (term, e) refl

mutual
  -- two trees of one symbol, in front of any texts
  pub same : (g : EnabledGrammar) → PlacesApart g → AreNamed g → (x : Closed) (t u : Tree) (a b : List Token) (r s : Text)
      → PlacesFit t → PlacesFit u
      → Admits g x t a → Admits g x u b → tree_text t ++ r ≡ tree_text u ++ s → (tree_without_spans t ≡ tree_without_spans u)
      × (r ≡ s)
  same g apart named x (Tree.rule n args p ts) (Tree.rule m brgs q us) a b r s f i h j e =
      let calls = same_call g n m args brgs h.given j.given h.level j.level (sym h.symbol_is ∙ j.symbol_is) h.args_are j.args_are in
      let parts = node_cut n args m brgs p q ts us r s calls.name calls.args_are f.0 i.0 e in
      let side = same_side g apart n m h.given j.given p q h.rule j.rule h.choice j.choice calls.name calls.given_are parts.0 h.fits j.fits
      h.at j.at in
      let kids = same_all g apart named (right_side g h.rule (bind h.rule h.given) h.choice) ts us a b 41 r s f.1 i.1 h.children
      (subst (λ z. AdmitsAll g z us b) side j.children) parts.1 in
      (rw (calls.name, calls.args_are, parts.0, kids.0) refl, kids.1)
  same g apart named x (Tree.list ts) (Tree.list us) a b r s f i h j e =
      let manys : Closed.repeat h.0 h.1 ≡ Closed.repeat j.0 j.1 = sym h.2 ∙ j.2 in
      let inside : h.1 ≡ j.1 = cc in
      let kids = same_each g apart named j.1 ts us a b r s f i (subst (λ z. AdmitsEach g z ts a) inside h.4) j.4
      (row_cut 91 93 ts us r s e) in
      (rw kids.0 refl, kids.1)
  same g apart named x Tree.opt_none Tree.opt_none a b r s f i h j e = (refl, append_cancel_left (codes "?()") r s e)
  same g apart named x Tree.opt_none (Tree.opt_some u) a b r s f i h j e =
      let first = begins g named j.0 u b j.2 in
      let behind : 41 ∷ r ≡ (tree_text u ++ codes ")") ++ s =
      append_cancel_left (codes "?(") (41 ∷ r) ((tree_text u ++ codes ")") ++ s) e in
      let opens = behind ∙ ap (λ l. (l ++ codes ")") ++ s) first.text_is in
      absurd (first.no_parenthesis (sym (heads 41 first.first r ((first.rest ++ codes ")") ++ s) opens)))
  same g apart named x (Tree.opt_some t) Tree.opt_none a b r s f i h j e =
      let first = begins g named h.0 t a h.2 in
      let behind : (tree_text t ++ codes ")") ++ r ≡ 41 ∷ s =
      append_cancel_left (codes "?(") ((tree_text t ++ codes ")") ++ r) (41 ∷ s) e in
      let opens = sym (ap (λ l. (l ++ codes ")") ++ r) first.text_is) ∙ behind in
      absurd (first.no_parenthesis (heads first.first 41 ((first.rest ++ codes ")") ++ r) s opens))
  same g apart named x (Tree.opt_some t) (Tree.opt_some u) a b r s f i h j e =
      let manys : Closed.repeat Op.question h.0 ≡ Closed.repeat Op.question j.0 = sym h.1 ∙ j.1 in
      let inside : h.0 ≡ j.0 = cc in
      let behind : (tree_text t ++ (41 ∷ [])) ++ r ≡ (tree_text u ++ (41 ∷ [])) ++ s =
      append_cancel_left (codes "?(") ((tree_text t ++ (41 ∷ [])) ++ r) ((tree_text u ++ (41 ∷ [])) ++ s) e in
      let kid = same g apart named j.0 t u a b (41 ∷ r) (41 ∷ s) f i (subst (λ z. Admits g z t a) inside h.2) j.2
      (sym (append_assoc (tree_text t) (41 ∷ []) r) ∙ behind ∙ append_assoc (tree_text u) (41 ∷ []) s) in
      (rw kid.0 refl, tails 41 41 r s kid.1)
  same g apart named x (Tree.group ts) (Tree.group us) a b r s f i h j e =
      let rows : Closed.group h.0 ≡ Closed.group j.0 = sym h.1 ∙ j.1 in
      let inside : h.0 ≡ j.0 = cc in
      let kids = same_all g apart named (closed_list j.0) ts us a b 41 r s f i (subst (λ z. AdmitsAll g (closed_list z) ts a) inside h.2)
      j.2
      (row_cut 40 41 ts us r s e) in
      (rw kids.0 refl, kids.1)
  same g apart named x (Tree.terminal k) (Tree.terminal l) a b r s f i h j e =
      let texts = strings_apart k.text l.text r s e in
      (leaf_same k l x h.0 j.0 texts.0, texts.1)
  same g apart named x Tree.look Tree.look a b r s f i h j e = (refl, append_cancel_left (codes "@") r s e)
  same g apart named x (Tree.rule n args p ts) (Tree.list us) a b r s f i h j e =
      let forms : 0 ≡ 1 = same_form g x (Tree.rule n args p ts) (Tree.list us) a b h j in absurd (omega (arith, forms))
  same g apart named x (Tree.rule n args p ts) Tree.opt_none a b r s f i h j e =
      let forms : 0 ≡ 2 = same_form g x (Tree.rule n args p ts) Tree.opt_none a b h j in absurd (omega (arith, forms))
  same g apart named x (Tree.rule n args p ts) (Tree.opt_some u) a b r s f i h j e =
      let forms : 0 ≡ 2 = same_form g x (Tree.rule n args p ts) (Tree.opt_some u) a b h j in absurd (omega (arith, forms))
  same g apart named x (Tree.rule n args p ts) (Tree.group us) a b r s f i h j e =
      let forms : 0 ≡ 3 = same_form g x (Tree.rule n args p ts) (Tree.group us) a b h j in absurd (omega (arith, forms))
  same g apart named x (Tree.rule n args p ts) (Tree.terminal l) a b r s f i h j e =
      let forms : 0 ≡ 4 = same_form g x (Tree.rule n args p ts) (Tree.terminal l) a b h j in absurd (omega (arith, forms))
  same g apart named x (Tree.rule n args p ts) Tree.look a b r s f i h j e =
      let forms : 0 ≡ 5 = same_form g x (Tree.rule n args p ts) Tree.look a b h j in absurd (omega (arith, forms))
  same g apart named x (Tree.list ts) (Tree.rule m brgs q us) a b r s f i h j e =
      let forms : 1 ≡ 0 = same_form g x (Tree.list ts) (Tree.rule m brgs q us) a b h j in absurd (omega (arith, forms))
  same g apart named x (Tree.list ts) Tree.opt_none a b r s f i h j e =
      let forms : 1 ≡ 2 = same_form g x (Tree.list ts) Tree.opt_none a b h j in absurd (omega (arith, forms))
  same g apart named x (Tree.list ts) (Tree.opt_some u) a b r s f i h j e =
      let forms : 1 ≡ 2 = same_form g x (Tree.list ts) (Tree.opt_some u) a b h j in absurd (omega (arith, forms))
  same g apart named x (Tree.list ts) (Tree.group us) a b r s f i h j e =
      let forms : 1 ≡ 3 = same_form g x (Tree.list ts) (Tree.group us) a b h j in absurd (omega (arith, forms))
  same g apart named x (Tree.list ts) (Tree.terminal l) a b r s f i h j e =
      let forms : 1 ≡ 4 = same_form g x (Tree.list ts) (Tree.terminal l) a b h j in absurd (omega (arith, forms))
  same g apart named x (Tree.list ts) Tree.look a b r s f i h j e =
      let forms : 1 ≡ 5 = same_form g x (Tree.list ts) Tree.look a b h j in absurd (omega (arith, forms))
  same g apart named x Tree.opt_none (Tree.rule m brgs q us) a b r s f i h j e =
      let forms : 2 ≡ 0 = same_form g x Tree.opt_none (Tree.rule m brgs q us) a b h j in absurd (omega (arith, forms))
  same g apart named x Tree.opt_none (Tree.list us) a b r s f i h j e =
      let forms : 2 ≡ 1 = same_form g x Tree.opt_none (Tree.list us) a b h j in absurd (omega (arith, forms))
  same g apart named x Tree.opt_none (Tree.group us) a b r s f i h j e =
      let forms : 2 ≡ 3 = same_form g x Tree.opt_none (Tree.group us) a b h j in absurd (omega (arith, forms))
  same g apart named x Tree.opt_none (Tree.terminal l) a b r s f i h j e =
      let forms : 2 ≡ 4 = same_form g x Tree.opt_none (Tree.terminal l) a b h j in absurd (omega (arith, forms))
  same g apart named x Tree.opt_none Tree.look a b r s f i h j e =
      let forms : 2 ≡ 5 = same_form g x Tree.opt_none Tree.look a b h j in absurd (omega (arith, forms))
  same g apart named x (Tree.opt_some t) (Tree.rule m brgs q us) a b r s f i h j e =
      let forms : 2 ≡ 0 = same_form g x (Tree.opt_some t) (Tree.rule m brgs q us) a b h j in absurd (omega (arith, forms))
  same g apart named x (Tree.opt_some t) (Tree.list us) a b r s f i h j e =
      let forms : 2 ≡ 1 = same_form g x (Tree.opt_some t) (Tree.list us) a b h j in absurd (omega (arith, forms))
  same g apart named x (Tree.opt_some t) (Tree.group us) a b r s f i h j e =
      let forms : 2 ≡ 3 = same_form g x (Tree.opt_some t) (Tree.group us) a b h j in absurd (omega (arith, forms))
  same g apart named x (Tree.opt_some t) (Tree.terminal l) a b r s f i h j e =
      let forms : 2 ≡ 4 = same_form g x (Tree.opt_some t) (Tree.terminal l) a b h j in absurd (omega (arith, forms))
  same g apart named x (Tree.opt_some t) Tree.look a b r s f i h j e =
      let forms : 2 ≡ 5 = same_form g x (Tree.opt_some t) Tree.look a b h j in absurd (omega (arith, forms))
  same g apart named x (Tree.group ts) (Tree.rule m brgs q us) a b r s f i h j e =
      let forms : 3 ≡ 0 = same_form g x (Tree.group ts) (Tree.rule m brgs q us) a b h j in absurd (omega (arith, forms))
  same g apart named x (Tree.group ts) (Tree.list us) a b r s f i h j e =
      let forms : 3 ≡ 1 = same_form g x (Tree.group ts) (Tree.list us) a b h j in absurd (omega (arith, forms))
  same g apart named x (Tree.group ts) Tree.opt_none a b r s f i h j e =
      let forms : 3 ≡ 2 = same_form g x (Tree.group ts) Tree.opt_none a b h j in absurd (omega (arith, forms))
  same g apart named x (Tree.group ts) (Tree.opt_some u) a b r s f i h j e =
      let forms : 3 ≡ 2 = same_form g x (Tree.group ts) (Tree.opt_some u) a b h j in absurd (omega (arith, forms))
  same g apart named x (Tree.group ts) (Tree.terminal l) a b r s f i h j e =
      let forms : 3 ≡ 4 = same_form g x (Tree.group ts) (Tree.terminal l) a b h j in absurd (omega (arith, forms))
  same g apart named x (Tree.group ts) Tree.look a b r s f i h j e =
      let forms : 3 ≡ 5 = same_form g x (Tree.group ts) Tree.look a b h j in absurd (omega (arith, forms))
  same g apart named x (Tree.terminal k) (Tree.rule m brgs q us) a b r s f i h j e =
      let forms : 4 ≡ 0 = same_form g x (Tree.terminal k) (Tree.rule m brgs q us) a b h j in absurd (omega (arith, forms))
  same g apart named x (Tree.terminal k) (Tree.list us) a b r s f i h j e =
      let forms : 4 ≡ 1 = same_form g x (Tree.terminal k) (Tree.list us) a b h j in absurd (omega (arith, forms))
  same g apart named x (Tree.terminal k) Tree.opt_none a b r s f i h j e =
      let forms : 4 ≡ 2 = same_form g x (Tree.terminal k) Tree.opt_none a b h j in absurd (omega (arith, forms))
  same g apart named x (Tree.terminal k) (Tree.opt_some u) a b r s f i h j e =
      let forms : 4 ≡ 2 = same_form g x (Tree.terminal k) (Tree.opt_some u) a b h j in absurd (omega (arith, forms))
  same g apart named x (Tree.terminal k) (Tree.group us) a b r s f i h j e =
      let forms : 4 ≡ 3 = same_form g x (Tree.terminal k) (Tree.group us) a b h j in absurd (omega (arith, forms))
  same g apart named x (Tree.terminal k) Tree.look a b r s f i h j e =
      let forms : 4 ≡ 5 = same_form g x (Tree.terminal k) Tree.look a b h j in absurd (omega (arith, forms))
  same g apart named x Tree.look (Tree.rule m brgs q us) a b r s f i h j e =
      let forms : 5 ≡ 0 = same_form g x Tree.look (Tree.rule m brgs q us) a b h j in absurd (omega (arith, forms))
  same g apart named x Tree.look (Tree.list us) a b r s f i h j e =
      let forms : 5 ≡ 1 = same_form g x Tree.look (Tree.list us) a b h j in absurd (omega (arith, forms))
  same g apart named x Tree.look Tree.opt_none a b r s f i h j e =
      let forms : 5 ≡ 2 = same_form g x Tree.look Tree.opt_none a b h j in absurd (omega (arith, forms))
  same g apart named x Tree.look (Tree.opt_some u) a b r s f i h j e =
      let forms : 5 ≡ 2 = same_form g x Tree.look (Tree.opt_some u) a b h j in absurd (omega (arith, forms))
  same g apart named x Tree.look (Tree.group us) a b r s f i h j e =
      let forms : 5 ≡ 3 = same_form g x Tree.look (Tree.group us) a b h j in absurd (omega (arith, forms))
  same g apart named x Tree.look (Tree.terminal l) a b r s f i h j e =
      let forms : 5 ≡ 4 = same_form g x Tree.look (Tree.terminal l) a b h j in absurd (omega (arith, forms))

  -- a row of trees, one for each symbol, in front of a closing mark
  same_all : (g : EnabledGrammar) → PlacesApart g → AreNamed g
      → (xs : List Closed) (ts us : Trees) (a b : List Token) (c : ℕ) (r s : Text)
      → AllPlacesFit ts → AllPlacesFit us → AdmitsAll g xs ts a → AdmitsAll g xs us b
      → row_of ts ++ (c ∷ r) ≡ row_of us ++ (c ∷ s) → (trees_without_spans ts ≡ trees_without_spans us) × (r ≡ s)
  same_all g apart named [] Trees.none Trees.none a b c r s f i h j e = (refl, tails c c r s e)
  same_all g apart named [] (Trees.more t ts) us a b c r s f i h j e = absurd h
  same_all g apart named [] Trees.none (Trees.more u us) a b c r s f i h j e = absurd j
  same_all g apart named (x ∷ xs) Trees.none us a b c r s f i h j e = absurd h
  same_all g apart named (x ∷ xs) (Trees.more t ts) Trees.none a b c r s f i h j e = absurd j
  same_all g apart named (x ∷ xs) (Trees.more t ts) (Trees.more u us) a b c r s f i h j e =
      let first = same g apart named x t u h.0 j.0 (more_of ts ++ (c ∷ r)) (more_of us ++ (c ∷ s)) f.0 i.0 h.3 j.3
      (sym (append_assoc (tree_text t) (more_of ts) (c ∷ r)) ∙ e ∙ append_assoc (tree_text u) (more_of us) (c ∷ s)) in
      let others = more_all g apart named xs ts us h.1 j.1 c r s f.1 i.1 h.4 j.4 first.1 in
      (rw (first.0, others.0) refl, others.1)

  more_all : (g : EnabledGrammar) → PlacesApart g → AreNamed g
      → (xs : List Closed) (ts us : Trees) (a b : List Token) (c : ℕ) (r s : Text)
      → AllPlacesFit ts → AllPlacesFit us → AdmitsAll g xs ts a → AdmitsAll g xs us b
      → more_of ts ++ (c ∷ r) ≡ more_of us ++ (c ∷ s) → (trees_without_spans ts ≡ trees_without_spans us) × (r ≡ s)
  more_all g apart named [] Trees.none Trees.none a b c r s f i h j e = (refl, tails c c r s e)
  more_all g apart named [] (Trees.more t ts) us a b c r s f i h j e = absurd h
  more_all g apart named [] Trees.none (Trees.more u us) a b c r s f i h j e = absurd j
  more_all g apart named (x ∷ xs) Trees.none us a b c r s f i h j e = absurd h
  more_all g apart named (x ∷ xs) (Trees.more t ts) Trees.none a b c r s f i h j e = absurd j
  more_all g apart named (x ∷ xs) (Trees.more t ts) (Trees.more u us) a b c r s f i h j e =
      let behind = append_cancel_left (codes ", ") ((tree_text t ++ more_of ts) ++ (c ∷ r)) ((tree_text u ++ more_of us) ++ (c ∷ s))
      e in
      let first = same g apart named x t u h.0 j.0 (more_of ts ++ (c ∷ r)) (more_of us ++ (c ∷ s)) f.0 i.0 h.3 j.3
      (sym (append_assoc (tree_text t) (more_of ts) (c ∷ r)) ∙ behind ∙ append_assoc (tree_text u) (more_of us) (c ∷ s)) in
      let others = more_all g apart named xs ts us h.1 j.1 c r s f.1 i.1 h.4 j.4 first.1 in
      (rw (first.0, others.0) refl, others.1)

  -- a list of trees of one symbol, in front of a closing bracket
  same_each : (g : EnabledGrammar) → PlacesApart g → AreNamed g → (y : Closed) (ts us : Trees) (a b : List Token) (r s : Text)
      → AllPlacesFit ts → AllPlacesFit us → AdmitsEach g y ts a → AdmitsEach g y us b
      → row_of ts ++ (93 ∷ r) ≡ row_of us ++ (93 ∷ s) → (trees_without_spans ts ≡ trees_without_spans us) × (r ≡ s)
  same_each g apart named y Trees.none Trees.none a b r s f i h j e = (refl, tails 93 93 r s e)
  same_each g apart named y Trees.none (Trees.more u us) a b r s f i h j e =
      let first = begins g named y u j.0 j.3 in
      let opens = e ∙ ap (λ l. (l ++ more_of us) ++ (93 ∷ s)) first.text_is in
      absurd (first.no_bracket (sym (heads 93 first.first r ((first.rest ++ more_of us) ++ (93 ∷ s)) opens)))
  same_each g apart named y (Trees.more t ts) Trees.none a b r s f i h j e =
      let first = begins g named y t h.0 h.3 in
      let opens = sym (ap (λ l. (l ++ more_of ts) ++ (93 ∷ r)) first.text_is) ∙ e in
      absurd (first.no_bracket (heads first.first 93 ((first.rest ++ more_of ts) ++ (93 ∷ r)) s opens))
  same_each g apart named y (Trees.more t ts) (Trees.more u us) a b r s f i h j e =
      let first = same g apart named y t u h.0 j.0 (more_of ts ++ (93 ∷ r)) (more_of us ++ (93 ∷ s)) f.0 i.0 h.3 j.3
      (sym (append_assoc (tree_text t) (more_of ts) (93 ∷ r)) ∙ e ∙ append_assoc (tree_text u) (more_of us) (93 ∷ s)) in
      let others = more_each g apart named y ts us h.1 j.1 r s f.1 i.1 h.4 j.4 first.1 in
      (rw (first.0, others.0) refl, others.1)

  more_each : (g : EnabledGrammar) → PlacesApart g → AreNamed g → (y : Closed) (ts us : Trees) (a b : List Token) (r s : Text)
      → AllPlacesFit ts → AllPlacesFit us → AdmitsEach g y ts a → AdmitsEach g y us b
      → more_of ts ++ (93 ∷ r) ≡ more_of us ++ (93 ∷ s) → (trees_without_spans ts ≡ trees_without_spans us) × (r ≡ s)
  more_each g apart named y Trees.none Trees.none a b r s f i h j e = (refl, tails 93 93 r s e)
  more_each g apart named y Trees.none (Trees.more u us) a b r s f i h j e =
      let marks : 93 ≡ 44 = heads 93 44 r (32 ∷ ((tree_text u ++ more_of us) ++ (93 ∷ s))) e in absurd (omega (arith, marks))
  more_each g apart named y (Trees.more t ts) Trees.none a b r s f i h j e =
      let marks : 44 ≡ 93 = heads 44 93 (32 ∷ ((tree_text t ++ more_of ts) ++ (93 ∷ r))) s e in absurd (omega (arith, marks))
  more_each g apart named y (Trees.more t ts) (Trees.more u us) a b r s f i h j e =
      let behind = append_cancel_left (codes ", ") ((tree_text t ++ more_of ts) ++ (93 ∷ r)) ((tree_text u ++ more_of us) ++ (93 ∷ s))
      e in
      let first = same g apart named y t u h.0 j.0 (more_of ts ++ (93 ∷ r)) (more_of us ++ (93 ∷ s)) f.0 i.0 h.3 j.3
      (sym (append_assoc (tree_text t) (more_of ts) (93 ∷ r)) ∙ behind ∙ append_assoc (tree_text u) (more_of us) (93 ∷ s)) in
      let others = more_each g apart named y ts us h.1 j.1 r s f.1 i.1 h.4 j.4 first.1 in
      (rw (first.0, others.0) refl, others.1)
