-- A port whose four queues were emptied one after another is in the state that the machine's drain makes. Assumes nothing.
use Prim.Native.Nat.{ℕ, ◌+◌}
use mathlib.Core.Path.{◌≡◌, refl, sym, ap, ◌∙◌}
use mathlib.Core.Bool.{false}
use mathlib.Core.List.{[], map}
use native.Mathlib.Omega.{arith}
use lib.Dec.{eqb}
use lib.ListN.{length}
use Rattle.rules.specs.Choice.{Each}
use Rattle.rules.proofs.Choice.{on_list}
use Rattle.machine.specs.Waiting.{port_at, queue_at, drain}
use Rattle.machine.specs.Events.{drains, tally, Counts}
use Rattle.machine.specs.State.{State}
use Rattle.standing.specs.TrafficTheorems.{Somewhere}
use Rattle.standing.proofs.Reading.{drain_empty}
use Rattle.standing.proofs.PortQueues.{InQueue, port_count}
use Rattle.standing.proofs.Sends.{drain_after_sends, sends_other, sends_all, drains_counted, counted_then, tally_drained}
use Rattle.standing.proofs.Draining.{less_copies}

module _ (p : ℕ) where
  abbrev waiting_at : ℕ → State → ℕ
  waiting_at q s = length (queue_at p q s.core.waiting)

  abbrev pub emptied : ℕ → State → State
  emptied q s = less_copies (waiting_at q s) p q s

  -- ---- one queue

  emptied_same : (q : ℕ) (s : State) → waiting_at q (emptied q s) ≡ 0
  emptied_same q s = sends_all (waiting_at q s) p q s.core.waiting refl

  emptied_other : (q r : ℕ) (s : State) → eqb q r ≡ false → waiting_at r (emptied q s) ≡ waiting_at r s
  emptied_other q r s ne = ap length (sends_other (waiting_at q s) p q r s.core.waiting ne)

  emptied_drain : (q : ℕ) (s : State) → drain p (emptied q s).core.waiting ≡ drain p s.core.waiting
  emptied_drain q s = drain_after_sends (waiting_at q s) p q s.core.waiting

  -- ---- all four

  module _ (s : State) where
    abbrev s₃ : State
    s₃ = emptied 3 s

    abbrev s₂ : State
    s₂ = emptied 2 s₃

    abbrev s₁ : State
    s₁ = emptied 1 s₂

    abbrev pub all_emptied : State
    all_emptied = emptied 0 s₁

    nobody_left : Each InQueue all_emptied.core.waiting → port_at p all_emptied.core.waiting ≡ []
    nobody_left low =
        on_list (port_at p all_emptied.core.waiting)
        (λ e. e)
        (λ f fs e. absurd (omega (
          arith,
          ap length e,
          port_count p all_emptied.core.waiting low,
          emptied_same 0 s₁,
          emptied_other 0 1 s₁ refl ∙ emptied_same 1 s₂,
          emptied_other 0 2 s₁ refl ∙ emptied_other 1 2 s₂ refl ∙ emptied_same 2 s₃,
          emptied_other 0 3 s₁ refl ∙ emptied_other 1 3 s₂ refl ∙ emptied_other 2 3 s₃ refl ∙ emptied_same 3 s,
        )))

    pub emptied_waiting : Each InQueue all_emptied.core.waiting → Each Somewhere all_emptied.core.waiting
        → all_emptied.core.waiting ≡ drain p s.core.waiting
    emptied_waiting low somewhere =
        sym (drain_empty p all_emptied.core.waiting somewhere (nobody_left low))
        ∙ emptied_drain 0 s₁
        ∙ emptied_drain 1 s₂
        ∙ emptied_drain 2 s₃
        ∙ emptied_drain 3 s

    -- each copy that waited at the port left one of the four
    pub emptied_copies : Each InQueue s.core.waiting
        → waiting_at 3 s + waiting_at 2 s₃ + waiting_at 1 s₂ + waiting_at 0 s₁ ≡ length (port_at p s.core.waiting)
    emptied_copies low =
        omega (
          arith,
          port_count p s.core.waiting low,
          emptied_other 3 2 s refl,
          emptied_other 2 1 s₃ refl ∙ emptied_other 3 1 s refl,
          emptied_other 1 0 s₂ refl ∙ emptied_other 2 0 s₃ refl ∙ emptied_other 3 0 s refl,
        )

    pub emptied_counters : Each InQueue s.core.waiting
        → all_emptied.counters ≡ tally (map (λ f. drains p f) (port_at p s.core.waiting)) s.counters
    emptied_counters low =
        let k₃ : ℕ = waiting_at 3 s in
        let k₂ : ℕ = waiting_at 2 s₃ in
        let k₁ : ℕ = waiting_at 1 s₂ in
        let k₀ : ℕ = waiting_at 0 s₁ in
        ap (λ (c : Counts). drains_counted k₀ p (drains_counted k₁ p c)) (counted_then k₂ k₃ p s.counters)
        ∙ ap (drains_counted k₀ p) (counted_then k₁ (k₃ + k₂) p s.counters)
        ∙ counted_then k₀ (k₃ + k₂ + k₁) p s.counters
        ∙ ap (λ (k : ℕ). drains_counted k p s.counters) (emptied_copies low)
        ∙ sym (tally_drained p (port_at p s.core.waiting) s.counters)
