-- The laws of chains of uses, whatever uses what: an index grows from the last place down, and a walk along the chain of a node meets each of its uses.
use mathlib.Core.Path.{◌≡◌, sym, ap, subst, ◌∙◌}
use mathlib.Core.List.{List}
use Prim.Native.Nat.{ℕ, suc, ◌<◌, ◌≤◌}
use native.Mathlib.Omega.{arith}
use native.Mathlib.Decide.{ℕ_discrete}
use lib.ListN.{length, get_or, set, replicate, length-set, get_or-replicate, length-replicate}
use Rattle.edges.specs.Uses.{FirstUse, IndexedFrom}
use Rattle.edges.proofs.Setting.{after_set}

-- each use of a below place k was met, and k is the next
pub record Walked (Use : ℕ → ℕ → Type 0) (many : ℕ) (Met : ℕ → Type 0) (a k : ℕ) : Type 0 where
  pub met : (j : ℕ) → j < k → j < many → Use a j → Met j
  pub here : k < many → Use a k

module _ {Use : ℕ → ℕ → Type 0} {many past : ℕ} where
  -- ---- the index

  pub chain_starts : (nodes width : ℕ) (first next : List ℕ) → many ≤ past → first ≡ replicate nodes past → next ≡ replicate width past → IndexedFrom Use many past nodes width first next many
  chain_starts nodes width first next le ef en = record {
    within = omega arith;
    chained = record {
      firsts = λ a lt. subst (FirstUse Use many past a many) (sym (ap (λ (l : List ℕ). get_or l a 0) ef ∙ get_or-replicate nodes a past 0 lt)) (record {
        from = le;
        uses = λ lt. absurd (omega arith);
        none = λ h. omega arith;
        lowest = λ j ge lt e. absurd (omega arith);
      });
      nexts = λ a k lt ge b e. absurd (omega arith);
    };
    first_long = ap length ef ∙ length-replicate {A = ℕ} nodes past;
    next_long = ap length en ∙ length-replicate {A = ℕ} width past;
    rest = λ k ge lt. ap (λ (l : List ℕ). get_or l k 0) en ∙ get_or-replicate width k past 0 lt;
  }

  module _ {nodes width : ℕ} {first next : List ℕ} {low : ℕ} (i : IndexedFrom Use many past nodes width first next low) (k : ℕ) (ek : low ≡ suc k) where
    -- a node that place k does not use has the first use that it had
    there : (b x : ℕ) → (Use b k → ⊥) → FirstUse Use many past b low x → FirstUse Use many past b k x
    there b x free u = record {
      from = omega (arith, u.from);
      uses = u.uses;
      none = u.none;
      lowest = λ j ge lt e. elim (ℕ_discrete j k) [
        | yes f ↦ absurd (free (subst (Use b) f e))
        | no nf ↦ u.lowest j (omega arith) lt e
      ];
    }

    -- place k uses a and no other: it goes before the uses of a that come after it
    pub chain_more : (a : ℕ) → a < nodes → k < width → Use a k → ((b : ℕ) → Use b k → b ≡ a) → IndexedFrom Use many past nodes width (set first a k) (set next k (get_or first a 0)) k
    chain_more a la lk u one = record {
      within = omega (arith, i.within);
      chained = record {
        firsts = after_set first a k (omega (arith, i.first_long)) (λ b x. b < nodes → FirstUse Use many past b k x)
            (λ lt. record { from = omega arith; uses = λ h. u; none = λ h. absurd (omega (arith, i.within)); lowest = λ j ge h e. ge })
            (λ b ne lt. there b (get_or first b 0) (λ e. ne (one b e)) (i.chained.firsts b lt));
        nexts = λ b j lb. after_set next k (get_or first a 0) (omega (arith, i.next_long)) (λ j x. k ≤ j → j < many → Use b j → FirstUse Use many past b (suc j) x)
            (λ ge lt e. subst (λ (c : ℕ). FirstUse Use many past c (suc k) (get_or first a 0)) (sym (one b e)) (subst (λ (n : ℕ). FirstUse Use many past a n (get_or first a 0)) ek (i.chained.firsts a la)))
            (λ j ne ge lt e. i.chained.nexts b j lb (omega arith) lt e) j;
      };
      first_long = length-set first a k ∙ i.first_long;
      next_long = length-set next k (get_or first a 0) ∙ i.next_long;
      rest = after_set next k (get_or first a 0) (omega (arith, i.next_long)) (λ j x. many ≤ j → j < width → x ≡ past)
          (λ ge lt. absurd (omega (arith, i.within)))
          (λ j ne ge lt. i.rest j ge lt);
    }

    -- place k uses no node
    pub chain_skip : ((b : ℕ) → b < nodes → Use b k → ⊥) → IndexedFrom Use many past nodes width first next k
    chain_skip free = record {
      within = omega (arith, i.within);
      chained = record {
        firsts = λ b lt. there b (get_or first b 0) (free b lt) (i.chained.firsts b lt);
        nexts = λ b j lb ge lt e. elim (ℕ_discrete j k) [
          | yes f ↦ absurd (free b lb (subst (Use b) f e))
          | no nf ↦ i.chained.nexts b j lb (omega arith) lt e
        ];
      };
      first_long = i.first_long;
      next_long = i.next_long;
      rest = i.rest;
    }

  -- ---- the walk

  pub walk_more : {Met Met' : ℕ → Type 0} {a k k' : ℕ} → Walked Use many Met a k → FirstUse Use many past a (suc k) k' → ((j : ℕ) → Met j → Met' j) → Met' k → Walked Use many Met' a k'
  walk_more {Met} {Met'} {a} {k} w u keeps here = record {
    met = λ j lt b e. elim (ℕ_discrete j k) [
      | yes s ↦ subst Met' (sym s) here
      | no ne ↦ keeps j (w.met j (let no : k < j → ⊥ = λ g. omega (arith, u.lowest j g b e) in omega arith) b e)
    ];
    here = u.uses;
  }
