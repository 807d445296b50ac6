use Rattle.std.proofs.Common.{◌≡◌, ◌∙◌, ◌+◌, ◌<◌, ℕ, false, true, IsTrue, ap, arith, get_or, length, subst, sym}
use Rattle.std.specs.Borrow.{Bor}
use Rattle.std.specs.List.{All}
use Rattle.std.specs.Prelude.{List}
use Rattle.std.proofs.lemmas.Str.{IsCharBoundary-start}
use Rattle.lalrpop_plain_tables.specs.Words.{IsWordOf}
use Rattle.lalrpop_plain_tables.proofs.WordLemmas.{IsScanning, scan_blank, scan_on, scanning_start}
use Rattle.lalrpop_plain_tables.proofs.lines.words.words.Goals as goal
use Rattle.lalrpop_plain_tables.proofs.lines.words.words.Goals.{then-is_free_blank+in_ok-push_word, else-is_free_blank}

pub loop-at-init : goal.loop-at-init
loop-at-init c = record {
  words = λ k d h. absurd (omega (arith, ap length c.new-words.ensures.items, h));
  scanning = scanning_start c.args.text.now (IsCharBoundary-start c.args.text.now c.utf8.text);
}

pub loop-at-preserved : goal.loop-at-preserved
loop-at-preserved c =
    let text = c.args.text.now in
    let byte = get_or c.as_bytes-bytes.result.now c.loop-at.at 0 in
    let read : byte ≡ get_or text c.loop-at.at 0 = ap (λ l. get_or l c.loop-at.at 0) c.as_bytes-bytes.ensures.value in
    let here : c.loop-at.at < length text = omega (arith, c.loop-at-test.true, c.as_bytes-bytes.ensures.len) in
    let s = c.loop-at.invariant.scanning in
    elim c.if-is_free_blank.branch [
      | then-is_free_blank+in_ok-push_word w ↦ record {
        words = subst (λ (l : List (Bor (List ℕ))). All (λ v. IsWordOf text v.now) l) (sym (ap (λ v. v.items) w.words-is))
            w.in_ok-push_word.ensures;
        scanning = subst (λ f. IsScanning text (c.loop-at.at + 1) f c.behind-next.result) (sym w.from-is)
            (scan_blank text c.loop-at.at c.loop-at.from c.loop-at.quotes s byte here read c.behind-next.result c.utf8.text
            (c.is_free_blank.ensures.0 w.if-is_free_blank.true).0 (c.is_free_blank.ensures.0 w.if-is_free_blank.true).1
            c.behind-next.ensures);
      }
      | else-is_free_blank w ↦ record {
        words = subst (λ (l : List (Bor (List ℕ))). All (λ v. IsWordOf text v.now) l) (sym (ap (λ v. v.items) w.words-is))
            c.loop-at.invariant.words;
        scanning = subst (λ f. IsScanning text (c.loop-at.at + 1) f c.behind-next.result) (sym w.from-is)
            (scan_on text c.loop-at.at c.loop-at.from c.loop-at.quotes s byte here read c.behind-next.result
            (λ e o. let yes : IsTrue c.is_free_blank.result = c.is_free_blank.ensures.1 (e, o) in
            let wrong : true ≡ false = sym yes ∙ w.if-is_free_blank.false in let z : ⊥ = cc in z)
            c.behind-next.ensures);
      }
    ]
