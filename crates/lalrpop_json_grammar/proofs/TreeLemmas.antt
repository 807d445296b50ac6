-- Trees: what is read is spelled so, and what is spelled so is read; for read_tree and tree_laws.
use Rattle.std.proofs.Common.{◌≡◌, ℕ, ◌+◌, ◌<◌, ◌^◌, List, [], ◌∷◌, map, Option, Some, None, Result, Ok, Err}
use Rattle.std.proofs.Common.{true, false, is_some, refl, ap, sym, ◌∙◌, subst, IfOk}
use Rattle.serde_json.specs.Data.{Data, null}
use Rattle.serde_json.specs.Find.{as_null}
use Rattle.serde_json.specs.View.{items_of}
use Rattle.lalrpop_grammar_symbols.specs.declared.span.Span.{Span}
use Rattle.lalrpop_grammar_symbols.specs.declared.symbol.Symbol.{Symbol}
use Rattle.lalrpop_grammar_symbols.specs.declared.terminal.TerminalString.{TerminalString}
use Rattle.lalrpop_grammar.specs.declared.tree.WrittenTree.{WrittenTree, fold-roll-WrittenTree}
use Rattle.lalrpop_grammar.specs.declared.tree.WrittenTree.TheOpen as layer
use Rattle.lalrpop_grammar.specs.declared.tree.WrittenTree.TheVariants as tree
use Rattle.lalrpop_json_values.specs.declared.fault.Fault.{Fault}
use Rattle.lalrpop_json_values.specs.declared.fault.ReadError.{ReadError}
use Rattle.lalrpop_json_values.specs.declared.fault.Step.TheVariants as step
use Rattle.lalrpop_json_values.specs.declared.form.Form.{Form}
use Rattle.lalrpop_json_values.specs.declared.form.Form.TheVariants as form
use Rattle.lalrpop_json_values.specs.declared.key.Key.TheVariants as key
use Rattle.lalrpop_json_values.specs.Gives.{Gives}
use Rattle.lalrpop_json_values.specs.Key.{key_text}
use Rattle.lalrpop_json_values.specs.Lists.{list_at, list_from}
use Rattle.lalrpop_json_values.specs.Nested.{Reader}
use Rattle.lalrpop_json_values.specs.Objects.{field_at, keys_at}
use Rattle.lalrpop_json_values.specs.Scalars.{is_name, name_at, null_at, number_at, optional, span_at, text_at}
use Rattle.lalrpop_json_values.specs.Spelled.{EachFrom, IfSome, IsSpan, list_json, option_json}
use Rattle.lalrpop_json_values.proofs.ListLawLemmas.{list_takes}
use Rattle.lalrpop_json_values.proofs.NestingLemmas.{nested_takes}
use Rattle.lalrpop_json_values.proofs.ScalarLemmas.{name_takes, name_again, null_takes, number_takes, number_again, optional_takes}
use Rattle.lalrpop_json_values.proofs.ScalarLemmas.{span_takes, span_again, text_takes, text_again}
use Rattle.lalrpop_json_values.proofs.StepLemmas.{part, ok_same, object_ok}
use Rattle.lalrpop_json_symbols.specs.Literals.{terminal_at}
use Rattle.lalrpop_json_symbols.specs.Readable.{IsReadableTerminal, AreReadableSymbols}
use Rattle.lalrpop_json_symbols.specs.Symbols.{symbol_at}
use Rattle.lalrpop_json_symbols.proofs.LiteralLemmas.{terminal_takes, terminal_again}
use Rattle.lalrpop_json_symbols.proofs.SymbolLemmas.{symbols_take, symbols_again}
use Rattle.lalrpop_json_grammar.specs.Laws.{SpellsTree}
use Rattle.lalrpop_json_grammar.specs.ReadTrees.{form_of_tree, group_tree_at, leaf_at, look_tree_at, node_at, option_tree_at, list_tree_at}
use Rattle.lalrpop_json_grammar.specs.ReadTrees.{tree_at, tree_by, tree_layer_at}
use Rattle.lalrpop_json_grammar.specs.ReadableTrees.{IsReadableTree, AreReadableTrees}
use Rattle.lalrpop_json_grammar.specs.SpelledTrees.{group_tree_json, leaf_json, look_tree_json, node_json, option_tree_json, list_tree_json}
use Rattle.lalrpop_json_grammar.specs.SpelledTrees.{tree_spelling, tree_json_step}
use Rattle.lalrpop_json_grammar.proofs.TreeNestingLemmas.{tree_opened}

-- ---- how trees are spelled

spelled-node : (name : List ℕ) (args : List Symbol) (place : ℕ) (ts : List WrittenTree)
    → tree_spelling (tree.Rule (record { 0 = name }) args place ts) ≡ node_json name args place (list_json tree_spelling ts)
spelled-node name args place ts =
    ap tree_spelling (sym (tree.rolls-Rule (record { 0 = name }) args place ts))
    ∙ fold-roll-WrittenTree Data tree_json_step (layer.Rule (record { 0 = name }) args place ts)

spelled-repeated : (ts : List WrittenTree) → tree_spelling (tree.List ts) ≡ list_tree_json (list_json tree_spelling ts)
spelled-repeated ts = ap tree_spelling (sym (tree.rolls-List ts)) ∙ fold-roll-WrittenTree Data tree_json_step (layer.List ts)

spelled-absent : tree_spelling (tree.Opt None) ≡ option_tree_json null
spelled-absent = ap tree_spelling (sym (tree.rolls-Opt None)) ∙ fold-roll-WrittenTree Data tree_json_step (layer.Opt None)

spelled-present : (t : WrittenTree) → tree_spelling (tree.Opt (Some t)) ≡ option_tree_json (tree_spelling t)
spelled-present t = ap tree_spelling (sym (tree.rolls-Opt (Some t))) ∙ fold-roll-WrittenTree Data tree_json_step (layer.Opt (Some t))

spelled-grouped : (ts : List WrittenTree) → tree_spelling (tree.Group ts) ≡ group_tree_json (list_json tree_spelling ts)
spelled-grouped ts = ap tree_spelling (sym (tree.rolls-Group ts)) ∙ fold-roll-WrittenTree Data tree_json_step (layer.Group ts)

spelled-leaf : (terminal : TerminalString) (text : List ℕ) (span : Span)
    → tree_spelling (tree.Terminal terminal text span) ≡ leaf_json terminal text span
spelled-leaf terminal text span =
    ap tree_spelling (sym (tree.rolls-Terminal terminal text span))
    ∙ fold-roll-WrittenTree Data tree_json_step (layer.Terminal terminal text span)

spelled-look : tree_spelling (tree.Look) ≡ look_tree_json
spelled-look = ap tree_spelling (sym (tree.rolls-Look)) ∙ fold-roll-WrittenTree Data tree_json_step (layer.Look)

-- ---- what is read

leaf_takes : (d : Data) (x : WrittenTree) → leaf_at d ≡ Ok x → SpellsTree d x
unfolding leaf_at field_at key_text
leaf_takes = object_ok (key.Span ∷ key.Terminal ∷ key.Text ∷ []) _ SpellsTree λ fields x e.
    part (step.Key key.Span) (span_at fields.0) _ x e λ span spanned e.
    part (step.Key key.Terminal) (terminal_at fields.1.0) _ x e λ terminal term e.
    part (step.Key key.Text) (text_at fields.1.1.0) _ x e λ text texts e.
    let spanned_is = span_takes fields.0 span spanned in
    let term_is = terminal_takes fields.1.0 terminal term in
    let texts_is = text_takes fields.1.1.0 text texts in
    rw (← ok_same (tree.Terminal terminal text span) x e) (
      rw (spanned_is.0, term_is.0, texts_is) (sym (spelled-leaf terminal text span)),
      IsReadableTree.terminal terminal text span refl term_is.1 spanned_is.1,
    )

look_takes : (d : Data) (x : WrittenTree) → look_tree_at d ≡ Ok x → SpellsTree d x
unfolding look_tree_at field_at key_text
look_takes = object_ok (key.Look ∷ []) _ SpellsTree λ fields x e.
    part (step.Key key.Look) (null_at fields.0) _ x e λ u nothing e.
    let nothing_is = null_takes fields.0 u nothing in
    rw (← ok_same (tree.Look) x e) (rw (nothing_is) (sym spelled-look), IsReadableTree.look refl)

are_from : (i : ℕ) (xs : List WrittenTree) → EachFrom (λ _. IsReadableTree) i xs → AreReadableTrees xs
are_from i [] each = AreReadableTrees.none
are_from i (x ∷ xs) each = AreReadableTrees.more each.0 (are_from (i + 1) xs each.1)

option_made : (v : Data) (o : Option WrittenTree) → (v ≡ option_json tree_spelling o) × IfSome IsReadableTree o
    → SpellsTree (option_tree_json v) (tree.Opt o)
option_made v None h = (rw h.0 (sym spelled-absent), IsReadableTree.opt_none refl)
option_made v (Some t) h = (rw h.0 (sym (spelled-present t)), IsReadableTree.opt_some t refl h.1)

module _ (read : Reader WrittenTree) (takes : (d : Data) (x : WrittenTree) → read d ≡ Ok x → SpellsTree d x) where
  all_take : (d : Data) (xs : List WrittenTree) → list_at (λ _. read) d ≡ Ok xs → (d ≡ list_json tree_spelling xs)
      × AreReadableTrees xs
  all_take d xs e = let all = list_takes (λ _. read) tree_spelling (λ _. IsReadableTree) (λ _. takes) d xs e in
      (all.0, are_from 0 xs all.1)

  node_takes : (d : Data) (x : WrittenTree) → node_at read d ≡ Ok x → SpellsTree d x
  unfolding node_at field_at key_text
  node_takes = object_ok (key.Args ∷ key.Children ∷ key.Place ∷ key.Rule ∷ []) _ SpellsTree λ fields x e.
      part (step.Key key.Args) (list_at (λ _. symbol_at) fields.0) _ x e λ args given e.
      part (step.Key key.Children) (list_at (λ _. read) fields.1.0) _ x e λ children inner e.
      part (step.Key key.Place) (number_at fields.1.1.0) _ x e λ place placed e.
      part (step.Key key.Rule) (name_at fields.1.1.1.0) _ x e λ name named e.
      let given_is = symbols_take fields.0 args given in
      let inner_is = all_take fields.1.0 children inner in
      let placed_is = number_takes fields.1.1.0 place placed in
      let named_is = name_takes fields.1.1.1.0 name named in
      rw (← ok_same (tree.Rule (record { 0 = name }) args place children) x e) (
        rw (given_is.0, inner_is.0, placed_is.0, named_is.0) (sym (spelled-node name args place children)),
        IsReadableTree.rule name args place children refl named_is.1 given_is.1 placed_is.1 inner_is.1,
      )

  repeated_takes : (d : Data) (x : WrittenTree) → list_tree_at read d ≡ Ok x → SpellsTree d x
  unfolding list_tree_at field_at key_text
  repeated_takes = object_ok (key.List ∷ []) _ SpellsTree λ fields x e.
      part (step.Key key.List) (list_at (λ _. read) fields.0) _ x e λ trees inner e.
      let inner_is = all_take fields.0 trees inner in
      rw (← ok_same (tree.List trees) x e) (rw (inner_is.0) (sym (spelled-repeated trees)), IsReadableTree.list trees refl inner_is.1)

  group_takes : (d : Data) (x : WrittenTree) → group_tree_at read d ≡ Ok x → SpellsTree d x
  unfolding group_tree_at field_at key_text
  group_takes = object_ok (key.Group ∷ []) _ SpellsTree λ fields x e.
      part (step.Key key.Group) (list_at (λ _. read) fields.0) _ x e λ trees inner e.
      let inner_is = all_take fields.0 trees inner in
      rw (← ok_same (tree.Group trees) x e) (rw (inner_is.0) (sym (spelled-grouped trees)), IsReadableTree.group trees refl inner_is.1)

  option_takes : (d : Data) (x : WrittenTree) → option_tree_at read d ≡ Ok x → SpellsTree d x
  unfolding option_tree_at field_at key_text
  option_takes = object_ok (key.Opt ∷ []) _ SpellsTree λ fields x e.
      part (step.Key key.Opt) (optional read fields.0) _ x e λ o inner e.
      rw (← ok_same (tree.Opt o) x e) (option_made fields.0 o (optional_takes read tree_spelling IsReadableTree takes fields.0 o inner))

  by_told : (f : Option Form) (d : Data) (x : WrittenTree) → tree_by f read d ≡ Ok x → SpellsTree d x
  by_told (Some form.Group) d x e = group_takes d x e
  by_told (Some form.List) d x e = repeated_takes d x e
  by_told (Some form.Look) d x e = look_takes d x e
  by_told (Some form.Opt) d x e = option_takes d x e
  by_told (Some form.Rule) d x e = node_takes d x e
  by_told (Some form.Terminal) d x e = leaf_takes d x e
  by_told _ d x e = absurd (cc)

  form_takes : (d : Data) (x : WrittenTree) → tree_layer_at read d ≡ Ok x → SpellsTree d x
  unfolding tree_layer_at
  form_takes d x e = by_told (form_of_tree d) d x e

-- a value that is read as a tree spells that tree
pub tree_takes : (d : Data) (x : WrittenTree) → tree_at d ≡ Ok x → SpellsTree d x
unfolding tree_at
tree_takes = nested_takes tree_layer_at SpellsTree form_takes

-- ---- what is spelled

node_again : (name : List ℕ) (args : List Symbol) (place : ℕ) (ts : List WrittenTree) → is_name name ≡ true
    → AreReadableSymbols args → place < 2 ^ 32 → list_at (λ _. tree_at) (list_json tree_spelling ts) ≡ Ok ts
    → tree_at (node_json name args place (list_json tree_spelling ts)) ≡ Ok (tree.Rule (record { 0 = name }) args place ts)
unfolding tree_layer_at form_of_tree node_at keys_at field_at key_text
node_again name args place ts h0 h1 h2 h3 =
    tree_opened (node_json name args place (list_json tree_spelling ts))
    ∙ rw (symbols_again args h1, h3, number_again place h2, name_again name h0) refl

repeated_again : (ts : List WrittenTree) → list_at (λ _. tree_at) (list_json tree_spelling ts) ≡ Ok ts
    → tree_at (list_tree_json (list_json tree_spelling ts)) ≡ Ok (tree.List ts)
unfolding tree_layer_at form_of_tree list_tree_at keys_at field_at key_text
repeated_again ts h0 = tree_opened (list_tree_json (list_json tree_spelling ts)) ∙ rw (h0) refl

grouped_again : (ts : List WrittenTree) → list_at (λ _. tree_at) (list_json tree_spelling ts) ≡ Ok ts
    → tree_at (group_tree_json (list_json tree_spelling ts)) ≡ Ok (tree.Group ts)
unfolding tree_layer_at form_of_tree group_tree_at keys_at field_at key_text
grouped_again ts h0 = tree_opened (group_tree_json (list_json tree_spelling ts)) ∙ rw (h0) refl

absent_again : tree_at (option_tree_json null) ≡ Ok (tree.Opt None)
unfolding tree_layer_at form_of_tree option_tree_at keys_at field_at key_text
absent_again = tree_opened (option_tree_json null) ∙ refl

present_again : (t : WrittenTree) → is_some (as_null (tree_spelling t)) ≡ false → tree_at (tree_spelling t) ≡ Ok t
    → tree_at (option_tree_json (tree_spelling t)) ≡ Ok (tree.Opt (Some t))
unfolding tree_layer_at form_of_tree option_tree_at keys_at field_at key_text
present_again t h0 h1 = tree_opened (option_tree_json (tree_spelling t)) ∙ rw (h0, h1) refl

leaf_again : (terminal : TerminalString) (text : List ℕ) (span : Span) → IsReadableTerminal terminal → IsSpan span
    → tree_at (leaf_json terminal text span) ≡ Ok (tree.Terminal terminal text span)
unfolding tree_layer_at form_of_tree leaf_at keys_at field_at key_text
leaf_again terminal text span h0 h1 =
    tree_opened (leaf_json terminal text span) ∙ rw (span_again span h1, terminal_again terminal h0, text_again text) refl

look_again : tree_at (look_tree_json) ≡ Ok (tree.Look)
unfolding tree_layer_at form_of_tree look_tree_at keys_at field_at key_text null_at
look_again = tree_opened (look_tree_json) ∙ refl

-- no tree is spelled `null`
is_written : (t : WrittenTree) → IsReadableTree t → is_some (as_null (tree_spelling t)) ≡ false
is_written t (IsReadableTree.rule name args place ts e named given limit below) = rw (e, spelled-node name args place ts) refl
is_written t (IsReadableTree.list ts e are) = rw (e, spelled-repeated ts) refl
is_written t (IsReadableTree.opt_none e) = rw (e, spelled-absent) refl
is_written t (IsReadableTree.opt_some inside e is) = rw (e, spelled-present inside) refl
is_written t (IsReadableTree.group ts e are) = rw (e, spelled-grouped ts) refl
is_written t (IsReadableTree.terminal terminal text span e is spanned) = rw (e, spelled-leaf terminal text span) refl
is_written t (IsReadableTree.look e) = rw (e, spelled-look) refl

listed : (ts : List WrittenTree) → list_from (λ _. tree_at) 0 (items_of (map tree_spelling ts)) ≡ Ok ts
    → list_at (λ _. tree_at) (list_json tree_spelling ts) ≡ Ok ts
unfolding list_at
listed ts e = e

mutual
  -- the spelling of a tree that has one is read as that tree
  pub tree_again : (t : WrittenTree) → IsReadableTree t → tree_at (tree_spelling t) ≡ Ok t
  tree_again t (IsReadableTree.rule name args place ts e named given limit below) =
      rw (e, spelled-node name args place ts) (node_again name args place ts named given limit (listed ts (trees_again 0 ts below)))
  tree_again t (IsReadableTree.list ts e are) = rw (e, spelled-repeated ts) (repeated_again ts (listed ts (trees_again 0 ts are)))
  tree_again t (IsReadableTree.opt_none e) = rw (e, spelled-absent) absent_again
  tree_again t (IsReadableTree.opt_some inside e is) =
      rw (e, spelled-present inside) (present_again inside (is_written inside is) (tree_again inside is))
  tree_again t (IsReadableTree.group ts e are) = rw (e, spelled-grouped ts) (grouped_again ts (listed ts (trees_again 0 ts are)))
  tree_again t (IsReadableTree.terminal terminal text span e is spanned) =
      rw (e, spelled-leaf terminal text span) (leaf_again terminal text span is spanned)
  tree_again t (IsReadableTree.look e) = rw (e, spelled-look) look_again

  trees_again : (i : ℕ) (ts : List WrittenTree) → AreReadableTrees ts
      → list_from (λ _. tree_at) i (items_of (map tree_spelling ts)) ≡ Ok ts
  trees_again i [] AreReadableTrees.none = refl
  trees_again i (t ∷ ts) (AreReadableTrees.more is are) = rw (tree_again t is, trees_again (i + 1) ts are) refl

-- ---- what a reader answers

-- the value spells the tree that a reader answers
pub gives_spelled : (r : Result WrittenTree ReadError) (d : Data) → Gives r (tree_at d) → IfOk r (λ t. SpellsTree d t)
gives_spelled (Ok t) d h = tree_takes d t h
gives_spelled (Err e) d h = tt

-- a tree that the value spells is what a reader answers, unless memory runs out
pub gives_found : (r : Result WrittenTree ReadError) (d : Data) → Gives r (tree_at d) → (t : WrittenTree) → SpellsTree d t
    → Gives r (Ok t)
gives_found r d h t spelled =
    let read : tree_at d ≡ Ok t = ap tree_at spelled.0 ∙ tree_again t spelled.1 in
    let P : Result WrittenTree Fault → Type 0 = λ x. Gives r x in
    subst P read h
