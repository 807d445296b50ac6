-- The text of a path: no byte of it has an escape in JSON, and one step more. For the texts of paths and faults.
use Rattle.std.proofs.Common.{◌≡◌, ◌<◌, ◌/◌, ◌%◌, ◌&&◌, ◌==◌, ℕ, zero, suc, Bool, true, false, List, []}
use Rattle.std.proofs.Common.{◌∷◌, ◌++◌, refl, ap, ap₂, ◌∙◌}
use Rattle.std.proofs.Common.{arith, cond, sym, append-nil, append_assoc, take, get_or, length, ◌+◌}
use Rattle.std.specs.Prelude.{codes}
use Rattle.std.proofs.lemmas.Bool.Decides.{nat_tests}
use Rattle.std.proofs.lemmas.List.{take_more}
use Rattle.std.proofs.lemmas.List.Folds.{list_all-append}
use Rattle.std.specs.Fmt.{digit_glyph, digits_onto, digits, decimal}
use Rattle.std.specs.List.{list_all}
use Rattle.lalrpop_json_values.specs.FaultText.{fault_text, kind_text, path_text, step_text}
use Rattle.lalrpop_json_values.specs.JsonText.{json_text, stands}
use Rattle.lalrpop_json_values.specs.Key.{key_text}
use Rattle.lalrpop_json_values.specs.declared.key.Key.{Key}
use Rattle.lalrpop_json_values.specs.declared.key.Key.TheVariants as key
use Rattle.lalrpop_json_values.specs.declared.fault.Fault.{Fault}
use Rattle.lalrpop_json_values.specs.declared.fault.Step.{Step}
use Rattle.lalrpop_json_values.specs.declared.fault.Step.TheVariants as step
use Rattle.lalrpop_json_values.proofs.EscapeLemmas.{standing-json}

abbrev pub AllStand : List ℕ → Type 0
AllStand s = list_all stands s ≡ true

both-stand : (s t : List ℕ) → AllStand s → AllStand t → AllStand (s ++ t)
both-stand s t hs ht = list_all-append stands s t ∙ ap₂ ◌&&◌ hs ht

key-stands : (k : Key) → AllStand (key_text k)
unfolding key_text
key-stands key.Action = refl
key-stands key.Alternatives = refl
key-stands key.Arg = refl
key-stands key.Args = refl
key-stands key.Associated = refl
key-stands key.Attributes = refl
key-stands key.Bare = refl
key-stands key.CatchAll = refl
key-stands key.Children = refl
key-stands key.Condition = refl
key-stands key.Contents = refl
key-stands key.Conversions = refl
key-stands key.Enum = refl
key-stands key.Equal = refl
key-stands key.Expr = refl
key-stands key.Fallible = refl
key-stands key.From = refl
key-stands key.Group = refl
key-stands key.Id = refl
key-stands key.Items = refl
key-stands key.Kind = refl
key-stands key.Lhs = refl
key-stands key.Lifetime = refl
key-stands key.List = refl
key-stands key.Literal = refl
key-stands key.Look = refl
key-stands key.Map = refl
key-stands key.Mutable = refl
key-stands key.Name = refl
key-stands key.Op = refl
key-stands key.Opt = refl
key-stands key.Parameters = refl
key-stands key.Paren = refl
key-stands key.Path = refl
key-stands key.Place = refl
key-stands key.PubIn = refl
key-stands key.Quoted = refl
key-stands key.Ref = refl
key-stands key.Regex = refl
key-stands key.Rhs = refl
key-stands key.Rule = refl
key-stands key.Span = refl
key-stands key.Symbol = refl
key-stands key.Terminal = refl
key-stands key.Text = refl
key-stands key.To = refl
key-stands key.Tuple = refl
key-stands key.DeclaredType = refl
key-stands key.TypeParameters = refl
key-stands key.User = refl
key-stands key.Visibility = refl
key-stands key.WhereClauses = refl

digit-stands : (d : ℕ) → d < 10 → stands (digit_glyph false d) ≡ true
digit-stands d h = grind (arith, nat_tests)

either-stands : (last : Bool) (s t : List ℕ) → AllStand s → AllStand t → AllStand (cond last s t)
either-stands true s t hs ht = hs
either-stands false s t hs ht = ht

digits-stand : (k n : ℕ) (acc : List ℕ) → AllStand acc → AllStand (digits_onto k 10 false n acc)
digits-stand zero n acc h = h
digits-stand (suc k) n acc h =
    let d = digit_glyph false (n % 10) in
    let front : AllStand (d ∷ acc) = ap₂ ◌&&◌ (digit-stands (n % 10) (omega arith)) h in
    either-stands (n / 10 == 0) (d ∷ acc) (digits_onto k 10 false (n / 10) (d ∷ acc)) front (digits-stand k (n / 10) (d ∷ acc) front)

number-stands : (n : ℕ) → AllStand (decimal n)
unfolding digits
number-stands n = digits-stand 64 n [] refl

step-stands : (s : Step) → AllStand (step_text s)
step-stands (step.Key k) = key-stands k
step-stands (step.Index i) = number-stands i

path-stands : (p : List Step) → AllStand (path_text p)
path-stands [] = refl
path-stands (s ∷ ss) = both-stand (step_text s) (path_text ss) (step-stands s) (path-stands ss)

-- in quotes a path is a JSON string
pub path-json : (p : List Step) → json_text (path_text p) ≡ 34 ∷ (path_text p ++ 34 ∷ [])
path-json p = standing-json (path_text p) (path-stands p)

-- one step behind a path
path-behind : (ss : List Step) (s : Step) → path_text ss ++ (47 ∷ step_text s) ≡ path_text (ss ++ s ∷ [])
path-behind [] s = ap (λ t. 47 ∷ t) (sym (append-nil (step_text s)))
path-behind (x ∷ ss) s =
    ap (λ t. 47 ∷ t) (append_assoc (step_text x) (path_text ss) (47 ∷ step_text s) ∙ ap (λ t. step_text x ++ t) (path-behind ss s))

-- one step more
pub path-more : (p : List Step) (i : ℕ) (d : Step) → i < length p
    → path_text (take i p) ++ (47 ∷ step_text (get_or p i d)) ≡ path_text (take (i + 1) p)
path-more p i d h = path-behind (take i p) (get_or p i d) ∙ ap path_text (sym (take_more p i d h))

-- the text of a fault, with the path in quotes
pub fault-quoted : (f : Fault) (p : List Step) → p ≡ f.path
    → kind_text f.kind ++ (codes " at \"" ++ (path_text p ++ codes "\"")) ≡ fault_text f
fault-quoted f p e =
    ap (λ t. kind_text f.kind ++ (32 ∷ 97 ∷ 116 ∷ 32 ∷ t)) (sym (path-json p) ∙ ap (λ q. json_text (path_text q)) e)
    ∙ sym (append_assoc (kind_text f.kind) (codes " at ") (json_text (path_text f.path)))
