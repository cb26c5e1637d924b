-- A true atom of the kind sets its mark, and another leaves all.
use mathlib.Core.Path.{◌≡◌, sym, ◌∙◌}
use Prim.Native.Nat.{◌+◌, ◌*◌}
use lib.ListN.{get_or}
use Rattle.truth.proofs.Marked.{marked_more, marked_ends, other_kind_lem, not_in, no_place, in_place}
use Rattle.truth.proofs.marks.marks_of.Goals as goal
use Rattle.truth.proofs.marks.marks_of.Goals.{then-atoms-i+then-flags-i-eq1+then-at-lt2048, else-atoms-i, else-atoms-i-via-then-atoms-i+then-flags-i-eq1+else-at-lt2048, else-atoms-i-via-then-atoms-i+else-flags-i-eq1, else-atoms-i-via-else-atoms-i}

pub loop-i-preserved : goal.loop-i-preserved
loop-i-preserved c =
    let a = c.args in
    let loop = c.loop-i in
    let at : c.from.result * a.width + c.from-in-loop-i.result ≡ get_or a.atoms.now.firsts.now loop.i 0 * a.width + get_or a.atoms.now.seconds.now loop.i 0 = cc in
    let kind = c.number.ensures in
    let more = marked_more _ _ _ _ _ _ c.requires _ _ loop.invariant c.loop-i-test.true _ at in
    elim c.if-atoms-i.branch [
      | then-atoms-i+then-flags-i-eq1+then-at-lt2048 w ↦ more _ (w.marks-is ∙ in_place _ _ _ _ _ (w.if-atoms-i.true ∙ kind) w.if-flags-i-eq1.true w.if-at-lt2048.true)
      | else-atoms-i w ↦ more _ (w.marks-is ∙ elim w.else-atoms-i.branch [
        | else-atoms-i-via-then-atoms-i+then-flags-i-eq1+else-at-lt2048 w' ↦ no_place _ _ _ _ _ (w'.if-atoms-i.true ∙ kind) w'.if-flags-i-eq1.true w'.if-at-lt2048.false
        | else-atoms-i-via-then-atoms-i+else-flags-i-eq1 w' ↦ not_in _ _ _ _ _ (w'.if-atoms-i.true ∙ kind) w'.if-flags-i-eq1.false
        | else-atoms-i-via-else-atoms-i w' ↦ other_kind_lem _ _ _ _ _ (λ e. w'.if-atoms-i.false (e ∙ sym kind))
      ])
    ]

pub returns : goal.returns
returns c = marked_ends _ _ _ _ _ _ c.requires _ _ c.loop-i.invariant c.loop-i-test.false
