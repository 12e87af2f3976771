-- A map file that is opened: read, with an empty fold; 12 comes before 13.
use Prim.Native.Nat.{ℕ}
use mathlib.Core.Path.{◌≡◌, refl, sym, ◌∙◌}
use mathlib.Core.Bool.{Bool, true, false}
use Rattle.std.specs.Prelude.{Option, None, Some}
use mathlib.Core.List.{List, []}
use lib.Ieee.{Float}
use lib.ListN.{length}
use borrow.Author.Tests.{eq-eqb, ne_eqb}
use Rattle.std.proofs.Common.{Result, Ok, Err}
use Rattle.refusal.specs.Answer.{Answer, refused, refused_as, present, ◌>>=◌}
use Rattle.refusal.specs.declared.Refusal.{Refusal}
use Rattle.refusal.specs.declared.Refusal.TheVariants.{BadMap, BadSet}
use Rattle.codec.specs.Format.{Bytes, file_of, no_true}
use Rattle.map.specs.Record.{Map}
use Rattle.map.specs.MapFile.{map_file}
use Rattle.mapfile.specs.MapBytes.{is_there, is_map_file}
use Rattle.building.specs.Build.{Cleared}
use Rattle.changes.specs.Running.{State}
use Rattle.files.specs.Files.{read_map}
use Rattle.files.specs.ReadInto.{MapReadInto}
use Rattle.files.specs.OpenInto.{open_into, MapOpened}
use Rattle.files.proofs.ReadLaws.{words_wrong, coords_wrong, file_wrong}

module _ (s : Bytes) (ws : List ℕ) (cs : List Float) (fs : List ℕ) where
  kept : (x : Refusal) → refused_as x ≡ open_into s (length ws) (length cs) (length fs) → MapOpened s ws cs fs (Err x) ws cs fs
  kept x e = record { is = e; untouched = (refl, refl, refl) }

  -- what reading refuses, opening refuses
  pub open_refused : (x : Refusal) (r : Result (Unit {0}) Refusal) (ws' : List ℕ) (cs' : List Float) → r ≡ Err x → MapReadInto s ws cs r ws' cs' → MapOpened s ws cs fs (Err x) ws' cs' fs
  open_refused x r ws' cs' e y =
      let z : MapReadInto s ws cs (Err x) ws' cs' = rw e at y in
      record { is = rw (← z.is); untouched = (z.untouched.0, z.untouched.1, refl) }

  bad : MapReadInto s ws cs (Err BadMap) ws cs → MapOpened s ws cs fs (Err BadMap) ws cs fs
  bad y = open_refused BadMap (Err BadMap) ws cs refl y

  pub open_words : (length ws ≡ 13671 → ⊥) → MapOpened s ws cs fs (Err BadMap) ws cs fs
  open_words h = bad (words_wrong s ws cs h)

  module _ (lw : length ws ≡ 13671) where
    pub open_coords : (length cs ≡ 105280 → ⊥) → MapOpened s ws cs fs (Err BadMap) ws cs fs
    open_coords h = bad (coords_wrong s ws cs lw h)

    module _ (lc : length cs ≡ 105280) (good : Bool) (g : good ≡ is_map_file s) where
      pub open_wrong : good ≡ false → MapOpened s ws cs fs (Err BadMap) ws cs fs
      open_wrong h = bad (file_wrong s ws cs lw lc good g h)

      pub open_fold : good ≡ true → (length fs ≡ 3556 → ⊥) → MapOpened s ws cs fs (Err BadSet) ws cs fs
      unfolding is_map_file read_map
      open_fold h l = kept BadSet (rw (eq-eqb (length ws) 13671 lw, eq-eqb (length cs) 105280 lc, ne_eqb (length fs) 3556 l) (go (file_of map_file s) (sym g ∙ h)))
        where
          go : (o : Option Map) → is_there o ≡ true → ◌≡◌ {A = Answer State} (refused 13 []) (present o 12 [] >>= λ m. refused 13 [])
          go None e = absurd (no_true e)
          go (Some m) e = refl

  pub open_done : length fs ≡ 3556 → (r : Result (Unit {0}) Refusal) (ws' : List ℕ) (cs' : List Float) (fs' : List ℕ) → r ≡ Ok tt → MapReadInto s ws cs r ws' cs' → Cleared fs'
      → MapOpened s ws cs fs (Ok (record { created = 0; modified = 0; deleted = 0 })) ws' cs' fs'
  open_done l r ws' cs' fs' e y c =
      let z : MapReadInto s ws cs (Ok tt) ws' cs' = rw e at y in
      record { is = rw (← z.is, eq-eqb (length fs) 3556 l, c.set); untouched = tt }

pub ruleset opening_map = (open_refused, open_words, open_coords, open_wrong, open_fold, open_done)
