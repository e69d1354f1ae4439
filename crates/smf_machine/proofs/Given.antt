-- Words of the world, by what the code has at hand.
use Rattle.std.proofs.Common.{◌≡◌, List, [], ◌∷◌, true, false, Option, Some, None, refl}
use Rattle.std.specs.Prelude.{option_map}
use Rattle.smf_contract.specs.declared.call.ContractCall.TheVariants.{Reboot}
use Rattle.smf_model.specs.declared.command.CommandReply.{CommandReply}
use Rattle.smf_model.specs.declared.command.CommandReply.TheVariants.{Made, Granted, Done, NoSuch, InUse, NotInState, Exists, Denied, Limit, Stale}
use Rattle.smf_model.specs.declared.held.Instance.{Instance}
use Rattle.smf_world.specs.declared.work.Becomes.TheVariants.{NoneLeft}
use Rattle.smf_world.specs.declared.work.Work.{Work}
use Rattle.smf_world.specs.Items.{row_over}
use Rattle.smf_world.specs.Worked.{booted_as}
use Rattle.smf_machine.specs.Given.{is_done, row_beside}

pub row_beside_is : (before : Option Instance) (i : Instance)
    → row_beside (option_map (λ x. x.row.number) before) i ≡ row_over before i
row_beside_is None i = refl
row_beside_is (Some before) i = refl

pub booted_done : (k : Work) (rs : List CommandReply) → is_done rs ≡ true
    → booted_as k rs ≡ record k { becomes = NoneLeft ∷ []; forgets = true; call = Reboot }
booted_done k [] e = absurd cc
booted_done k (Made n ∷ rs) e = absurd cc
booted_done k (Granted row ∷ rs) e = absurd cc
booted_done k (Done ∷ rs) e = refl
booted_done k (NoSuch ∷ rs) e = absurd cc
booted_done k (InUse ∷ rs) e = absurd cc
booted_done k (NotInState ∷ rs) e = absurd cc
booted_done k (Exists ∷ rs) e = absurd cc
booted_done k (Denied fault ∷ rs) e = absurd cc
booted_done k (Limit ∷ rs) e = absurd cc
booted_done k (Stale why row ∷ rs) e = absurd cc

pub booted_else : (k : Work) (rs : List CommandReply) → is_done rs ≡ false → booted_as k rs ≡ k
booted_else k [] e = refl
booted_else k (Made n ∷ rs) e = refl
booted_else k (Granted row ∷ rs) e = refl
booted_else k (Done ∷ rs) e = absurd cc
booted_else k (NoSuch ∷ rs) e = refl
booted_else k (InUse ∷ rs) e = refl
booted_else k (NotInState ∷ rs) e = refl
booted_else k (Exists ∷ rs) e = refl
booted_else k (Denied fault ∷ rs) e = refl
booted_else k (Limit ∷ rs) e = refl
booted_else k (Stale why row ∷ rs) e = refl
