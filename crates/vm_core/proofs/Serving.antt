-- The service of traps, by their numbers.
use Rattle.std.proofs.Common.{◌≡◌, ℕ, ◌∙◌, List, [], Option, Result, Err, inl, inr, refl, ap, subst, arith}
use Rattle.std.specs.Prelude.{◌==◌, if◌then◌else◌}
use Rattle.std.proofs.lemmas.Bool.Decides.{nat_tests}
use Rattle.qv_outside.specs.Event.{Event, Reply}
use Rattle.qv_outside.specs.Hosts.{Table, sig_of}
use Rattle.vm_core.specs.State.{State, Step}
use Rattle.vm_core.specs.Traps.{argument_of, asked, filled, moved, printed, raised, text_moved, trapped}
use Rattle.vm_core.specs.Ran.{Outside, outside}
use Rattle.vm_core.specs.Served.{Serves, ServesPlain, ServesPut, ServesRaise, ServesCall, stop_of}
use Rattle.vm_core.specs.declared.stop.Stop.{Stop}
use Rattle.vm_core.specs.declared.stop.Stop.TheVariants.{HostFault, OutFault}
use Rattle.vm_core.proofs.RanLaws.{did_along}

-- what trap k does, by its number
trapped_is : (table : Table) (k : ℕ) (s : State) → trapped table k s ≡ (if k == 0 then printed s
    else (if k == 1 then raised s
    else (if k == 100 then filled s (argument_of s 0) (argument_of s 1) (argument_of s 2)
    else (if k == 101 then moved s (argument_of s 0) (argument_of s 1) (argument_of s 2)
    else (if k == 102 then text_moved s (argument_of s 0) (argument_of s 1) (argument_of s 2)
    else asked k s (sig_of table k))))))
unfolding trapped
trapped_is table k s = refl

along : (table : Table) (k n : ℕ) (s : State) → k ≡ n → trapped table k s ≡ trapped table n s
along table k n s is = ap (λ m. trapped table m s) is

module _ (table : Table) (k : ℕ) where
  pub prints : k ≡ 0 → (s : State) → trapped table k s ≡ printed s
  prints is s = along table k 0 s is ∙ trapped_is table 0 s

  pub raises : k ≡ 1 → (s : State) → trapped table k s ≡ raised s
  raises is s = along table k 1 s is ∙ trapped_is table 1 s

  pub fills : k ≡ 100 → (s : State) → trapped table k s ≡ filled s (argument_of s 0) (argument_of s 1) (argument_of s 2)
  fills is s = along table k 100 s is ∙ trapped_is table 100 s

  pub moves : k ≡ 101 → (s : State) → trapped table k s ≡ moved s (argument_of s 0) (argument_of s 1) (argument_of s 2)
  moves is s = along table k 101 s is ∙ trapped_is table 101 s

  pub moves_text : k ≡ 102 → (s : State) → trapped table k s ≡ text_moved s (argument_of s 0) (argument_of s 1) (argument_of s 2)
  moves_text is s = along table k 102 s is ∙ trapped_is table 102 s

  pub asks : (k ≡ 0 → ⊥) → (k ≡ 1 → ⊥) → (k ≡ 100 → ⊥) → (k ≡ 101 → ⊥) → (k ≡ 102 → ⊥) → (s : State) → trapped table k s ≡ asked k s (sig_of table k)
  asks a b c d e s = trapped_is table k s ∙ grind (arith, nat_tests, a, b, c, d, e)

module _ (f g : State → Step) (same : (s : State) → f s ≡ g s) (memory : List ℕ) (program_stack : ℕ) (memory_now : List ℕ) where
  pub plain_serves : (told : Outside) (result : Result ℕ Stop) → ServesPlain g memory program_stack memory_now result → Serves f memory program_stack memory_now told told result
  plain_serves told result did = λ operands next. did_along _ _ _ (stop_of result) told told (same _) (inl (did operands next, refl))

  pub call_serves : (asked asked_now : Option (List Event)) (replied replied_now : Option (List Reply)) (written : Option (List ℕ)) (result : Result ℕ Stop) → ServesCall g memory program_stack memory_now asked asked_now replied replied_now result →
      Serves f memory program_stack memory_now (outside asked replied written) (outside asked_now replied_now written) result
  call_serves asked asked_now replied replied_now written result did = λ operands next. did_along _ _ _ (stop_of result) (outside asked replied written) (outside asked_now replied_now written) (same _) (inr (inr (inr (did operands next, refl))))

module _ (f g : State → Step) (same : (s : State) → f s ≡ g s) (memory : List ℕ) (program_stack : ℕ) (asked : Option (List Event)) (replied : Option (List Reply)) (written written_now : Option (List ℕ)) (result : Result ℕ Stop) where
  pub put_serves : ServesPut g memory program_stack written written_now result → Serves f memory program_stack memory (outside asked replied written) (outside asked replied written_now) result
  put_serves did = λ operands next. did_along _ _ _ (stop_of result) (outside asked replied written) (outside asked replied written_now) (same _) (inr (inl (did operands next, refl, refl)))

  pub raise_serves : ServesRaise g memory program_stack written written_now result → Serves f memory program_stack memory (outside asked replied written) (outside asked replied written_now) result
  raise_serves did = λ operands next. did_along _ _ _ (stop_of result) (outside asked replied written) (outside asked replied written_now) (same _) (inr (inr (inl (did operands next, refl, refl))))

-- no trap ends by the fault of what it doesn't touch
module _ (f : State → Step) (memory : List ℕ) (program_stack : ℕ) (memory_now : List ℕ) (result : Result ℕ Stop) where
  pub plain_no_host_fault : ServesPlain f memory program_stack memory_now result → result ≡ Err HostFault → ⊥
  plain_no_host_fault did is = let P : Result ℕ Stop → Type 0 = λ r. ServesPlain f memory program_stack memory_now r in subst P is did [] 0

  pub plain_no_out_fault : ServesPlain f memory program_stack memory_now result → result ≡ Err OutFault → ⊥
  plain_no_out_fault did is = let P : Result ℕ Stop → Type 0 = λ r. ServesPlain f memory program_stack memory_now r in subst P is did [] 0

  pub put_no_host_fault : (written written_now : Option (List ℕ)) → ServesPut f memory program_stack written written_now result → result ≡ Err HostFault → ⊥
  put_no_host_fault written written_now did is = let P : Result ℕ Stop → Type 0 = λ r. ServesPut f memory program_stack written written_now r in let h = subst P is did [] 0 in h.0

  pub raise_no_host_fault : (written written_now : Option (List ℕ)) → ServesRaise f memory program_stack written written_now result → result ≡ Err HostFault → ⊥
  raise_no_host_fault written written_now did is = let P : Result ℕ Stop → Type 0 = λ r. ServesRaise f memory program_stack written written_now r in let h = subst P is did [] 0 in h.0

  pub call_no_out_fault : (asked asked_now : Option (List Event)) (replied replied_now : Option (List Reply)) → ServesCall f memory program_stack memory_now asked asked_now replied replied_now result → result ≡ Err OutFault → ⊥
  call_no_out_fault asked asked_now replied replied_now did is = let P : Result ℕ Stop → Type 0 = λ r. ServesCall f memory program_stack memory_now asked asked_now replied replied_now r in let h = subst P is did [] 0 in h.0
