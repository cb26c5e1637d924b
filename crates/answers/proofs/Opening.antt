-- Open on an accepted table: a position from marks, and the record that it starts with.
use mathlib.Core.Path.{◌≡◌, refl, sym, ap, ◌∙◌}
use mathlib.Core.Bool.{Bool, ◌&&◌}
use mathlib.Core.List.{List, []}
use Prim.Native.Nat.{ℕ, ◌≤◌, ◌<◌}
use native.Mathlib.Omega.{arith}
use lib.Dec.{lt→ltb}
use lib.ListN.{length, get_or, take}
use lib.Seq.{ext_get_or, length-take-le, get_or-take}
use Rattle.refusals.specs.declared.Refusal.TheVariants.{Success}
use Rattle.gdl.specs.Game.{Game, init_kind}
use Rattle.gdl.specs.Sets.{Atoms}
use Rattle.gdl.specs.Flags.{on, bit, blank}
use Rattle.gdl.specs.Lists.{flags}
use Rattle.gdl.specs.Computed.{model, any_of}
use Rattle.gdl.proofs.Walks.{flags_length, flag_is}
use Rattle.rules.specs.Verdict.{fit}
use Rattle.rules.specs.Limits.{first_end, second_end}
use Rattle.rules.specs.Accepted.{Accepted}
use Rattle.session.specs.Shape.{fluent_fits}
use Rattle.truth.specs.Marks.{is_at, marks_of}
use Rattle.verdict.specs.Consulted.{Consulted, found_in}
use Rattle.calls.specs.declared.Moved.{Moved}
use Rattle.calls.specs.Position.{atom_in, still, opened}
use Rattle.calls.specs.Calls.{open_game}
use Rattle.calls.proofs.Returns.{open_fit}
use Rattle.answers.proofs.Reading.{thin_at, fits, only_fitting}
use Rattle.answers.proofs.Asking.{MarksIn}

module _ (G : Game) (ok : Accepted G) (X : Atoms) (k : ℕ) (thin : second_end G k ≤ 1) (of-fluents : first_end G k ≡ G.fluents) where
  -- the fluents of the atoms of the kind that are in
  pub position_is : (marks : List ℕ) → marks ≡ marks_of k 1 G.atoms X → take 512 marks ≡ flags 512 (λ f. fluent_fits G f && atom_in G X k f 0)
  unfolding marks_of
  position_is marks e =
      let f : ℕ → Bool = λ i. any_of (is_at k 1 i) G.atoms X in
      let n : length marks ≡ 2048 = ap length e ∙ flags_length f 0 2048 in
      let t : length (take 512 marks) ≡ 512 = length-take-le 512 marks (omega arith) in
      ext_get_or 0 (take 512 marks) (flags 512 g) (t ∙ sym (flags_length g 0 512)) (λ j h.
      let small : j < 512 = omega arith in
      get_or-take 512 marks j 0 small ∙ (ap (λ (l : List ℕ). get_or l j 0) e ∙ (flag_is f 2048 j (omega arith) ∙ (ap bit (at j) ∙ sym (flag_is g 512 j small)))))
    where
      g : ℕ → Bool
      g f = fluent_fits G f && atom_in G X k f 0

      at : (j : ℕ) → any_of (is_at k 1 j) G.atoms X ≡ (fluent_fits G j && atom_in G X k j 0)
      at j = thin_at G ok.limits X k thin j ∙ only_fitting G ok.limits X k (fluent_fits G j) (atom_in G X k j 0) (λ t. lt→ltb j G.fluents (omega (arith, (fits G ok.limits X k j 0 t).0, of-fluents)))

pub open_answered : (G : Game) → Accepted G → {c : Consulted} → c ≡ found_in G (model G [] []) → {marks position choices percepts : List ℕ}
    → MarksIn c 2 1 marks → position ≡ take 512 marks → choices ≡ blank 8 → percepts ≡ blank 2048
    → ◌≡◌ {A = Moved} (record { refusal = Success; session = record { position = position; choices = choices; percepts = percepts; round = 0 } }) (open_game (fit G))
unfolding opened still
open_answered G ok e {marks} {position} em ep ec es =
    let X : List ℕ = model G [] [] in
    let p : position ≡ flags 512 (λ f. fluent_fits G f && atom_in G (on (still G [])) init_kind f 0) =
    ep ∙ (position_is G ok (on X) 2 (omega arith) refl marks (em G X e ok.limits.atoms)) in
    rw (p, ec, es) (open_fit G)
