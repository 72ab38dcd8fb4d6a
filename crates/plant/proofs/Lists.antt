-- Lists of ONUs at a cell.
use Rattle.std.proofs.Common.{◌≡◌, ℕ, suc, ◌*◌, ◌≤◌, Bool, true, false, cond, List, [], ◌∷◌, ◌++◌, length, Some, None, Option, sym, refl, ap, subst, append_assoc, append-nil, arith, length-append}
use Rattle.message.specs.declared.downstream.Downstream.{Downstream}
use Rattle.onu.proofs.Table.{obeyed_keeps, happened_keeps}
use Rattle.onu.specs.Facts.{sound}
use Rattle.onu.specs.declared.state.Onu.{Onu}
use Rattle.plant.specs.declared.burst.Burst.{Burst}
use Rattle.plant.specs.Lawful.{Move, own, drift, by_move, by_moves, acted, Choice, answers, leaves, sends, Hears, none, more, Drifts, still, next}
use Rattle.plant.proofs.Rows.{answers_few}

module _ {n : ℕ} {gs : List ℕ} {m : Option Downstream} where
  pub hears-append : {xs xs' ys ys' : List Onu} {bs cs : List Burst} → Hears n gs m xs xs' bs → Hears n gs m ys ys' cs → Hears n gs m (xs ++ ys) (xs' ++ ys') (bs ++ cs)
  hears-append none k = k
  hears-append {ys = ys} {ys' = ys'} {cs = cs} (more {o = o} {os = os} {os' = os'} {bs = bs} c h) k =
      subst (λ (ws : List Burst). Hears n gs m (o ∷ (os ++ ys)) (leaves c m o ∷ (os' ++ ys')) ws) (sym (append_assoc (sends c n gs o) bs cs)) (more c (hears-append h k))

  pub hears-count : {xs xs' : List Onu} {bs : List Burst} → Hears n gs m xs xs' bs → length xs' ≡ length xs
  hears-count none = refl
  hears-count (more c h) = ap suc (hears-count h)

  -- one ONU
  pub hears_one : {o : Onu} (c : Choice) → Hears n gs m (o ∷ []) (leaves c m o ∷ []) (sends c n gs o)
  hears_one {o} c = subst (λ (ws : List Burst). Hears n gs m (o ∷ []) (leaves c m o ∷ []) ws) (append-nil (sends c n gs o)) (more c none)

sends_case : (v : Bool) (bs : List Burst) (k : ℕ) → length bs ≤ k → length (cond v [] bs) ≤ k
sends_case true bs k h = omega arith
sends_case false bs k h = h

pub sends_few : (c : Choice) (n : ℕ) (gs : List ℕ) (o : Onu) → length (sends c n gs o) ≤ length gs
sends_few c n gs o = sends_case c.loses (answers c.says (by_moves c.before o) n gs) (length gs) (answers_few c.says (by_moves c.before o) n gs)

-- 27 grants bring at most 27 bursts of each ONU
pub hears_few : {n : ℕ} {gs : List ℕ} {m : Option Downstream} {xs xs' : List Onu} {bs : List Burst} → length gs ≡ 27 → Hears n gs m xs xs' bs → length bs ≤ 27 * length xs
hears_few l none = omega arith
hears_few {n} {gs} l (more {o = o} {bs = bs} c h) =
    let k = hears_few l h in
    let e = sends_few c n gs o in
    simp length-append (omega arith)

-- ONUs stay sound
pub move_keeps : (m : Move) (o : Onu) → sound o ≡ true → sound (by_move m o) ≡ true
move_keeps (own e) o h = happened_keeps e o h
move_keeps (drift t) o h = h

pub moves_keep : (ms : List Move) (o : Onu) → sound o ≡ true → sound (by_moves ms o) ≡ true
moves_keep [] o h = h
moves_keep (m ∷ ms) o h = moves_keep ms (by_move m o) (move_keeps m o h)

pub acted_keeps : (m : Option Downstream) (o : Onu) → sound o ≡ true → sound (acted m o) ≡ true
acted_keeps None o h = h
acted_keeps (Some m) o h = obeyed_keeps m o h

-- between cells
pub drifts_still : (xs : List Onu) → Drifts xs xs
drifts_still [] = still
drifts_still (x ∷ xs) = next [] (drifts_still xs)

pub drifts-append : {xs xs' ys ys' : List Onu} → Drifts xs xs' → Drifts ys ys' → Drifts (xs ++ ys) (xs' ++ ys')
drifts-append still k = k
drifts-append (next ms h) k = next ms (drifts-append h k)

by_moves-append : (ms ns : List Move) (o : Onu) → by_moves (ms ++ ns) o ≡ by_moves ns (by_moves ms o)
by_moves-append [] ns o = refl
by_moves-append (m ∷ ms) ns o = by_moves-append ms ns (by_move m o)

pub drifts_twice : {xs ys zs : List Onu} → Drifts xs ys → Drifts ys zs → Drifts xs zs
drifts_twice still k = k
drifts_twice (next {o = o} {os = os} ms h) (next {os' = zs} ns k) =
    subst (λ (x : Onu). Drifts (o ∷ os) (x ∷ zs)) (by_moves-append ms ns o) (next (ms ++ ns) (drifts_twice h k))

pub drifts-count : {xs xs' : List Onu} → Drifts xs xs' → length xs' ≡ length xs
drifts-count still = refl
drifts-count (next ms h) = ap suc (drifts-count h)
