-- A fact of the changes of an edit still holds with the owners that the edit leaves to write.
use Rattle.std.proofs.Common.{◌≡◌, List, ◌++◌, Option, Some, None, refl, ap, ◌∙◌, subst}
use Rattle.smf_model.specs.declared.change.Change.{Change}
use Rattle.smf_model.specs.declared.change.Outcome.{Outcome as Asked}
use Rattle.smf_model.specs.declared.command.CommandReply.{CommandReply}
use Rattle.smf_model.specs.declared.command.CommandReply.TheVariants.{Made, Granted, Done, NoSuch, InUse, NotInState, Exists, Denied, Limit, Stale}
use Rattle.smf_model.specs.declared.held.Owner.{Owner}
use Rattle.smf_model.specs.Contents.{Holdings}
use Rattle.smf_model.specs.Look.{bare, groups_of, holdings_after_changes, instances}
use Rattle.smf_model.specs.Next.{and_owners, owners_written, unwritten, with_owners}
use Rattle.smf_model.specs.GeneralGroup.{current}
use Rattle.smf_model.proofs.LawOutcomes.{each_put, installed_append}
use Rattle.smf_model.proofs.Written.{put_each}

-- an edit that is done writes owners after its changes, and no other edit does
pub owners_behind : (P : List Change → Type 0) (h : Holdings) (o : Option Owner) (a : Asked) → P a.changes
    → ((owner : Owner) → a.reply ≡ Done → P (a.changes ++ owners_written (holdings_after_changes h a.changes) owner))
    → P (with_owners h o a).changes
unfolding with_owners
owners_behind P h None a p more = p
owners_behind P h (Some owner) a p more = by a.reply refl
  where
    by : (r : CommandReply) → a.reply ≡ r → P (and_owners h owner a.changes r)
    by Done e = more owner e
    by (Made n) e = p
    by (Granted row) e = p
    by NoSuch e = p
    by InUse e = p
    by NotInState e = p
    by Exists e = p
    by (Denied fault) e = p
    by Limit e = p
    by (Stale why row) e = p

-- a fact of an edit holds of it with the owners, if it does for an edit that is done
pub owners_or_none : (P : Asked → Type 0) (h : Holdings) (o : Option Owner) (a : Asked) → P a
    → (a.reply ≡ Done → P (with_owners h o a)) → P (with_owners h o a)
unfolding with_owners
owners_or_none P h None a p more = p
owners_or_none P h (Some owner) a p more = by a.reply refl
  where
    by : (r : CommandReply) → a.reply ≡ r → P (record a { changes = and_owners h owner a.changes r })
    by Done e = subst (λ (r : CommandReply). P (record a { changes = and_owners h owner a.changes r })) e (more e)
    by (Made n) e = p
    by (Granted row) e = p
    by NoSuch e = p
    by InUse e = p
    by NotInState e = p
    by Exists e = p
    by (Denied fault) e = p
    by Limit e = p
    by (Stale why row) e = p

-- the reply stays
pub reply_stays : (h : Holdings) (o : Option Owner) (a : Asked) → (with_owners h o a).reply ≡ a.reply
unfolding with_owners
reply_stays h None a = refl
reply_stays h (Some owner) a = refl

-- the instances once owners are written
pub owned_instances : (h : Holdings) (cs : List Change) (owner : Owner)
    → instances (holdings_after_changes h (cs ++ owners_written (holdings_after_changes h cs) owner))
    ≡ put_each (current (groups_of (holdings_after_changes h cs))) (unwritten (holdings_after_changes h cs) owner)
    (instances (holdings_after_changes h cs))
owned_instances h cs owner =
    ap (λ (k : Holdings). bare k.instances) (installed_append h cs (owners_written (holdings_after_changes h cs) owner))
    ∙ (each_put (current (groups_of (holdings_after_changes h cs))) (holdings_after_changes h cs)
    (unwritten (holdings_after_changes h cs) owner)).instances

-- the number of the snapshot that comes next stays
pub owned_snapshot : (h : Holdings) (cs : List Change) (owner : Owner)
    → (holdings_after_changes h (cs ++ owners_written (holdings_after_changes h cs) owner)).next_snapshot
    ≡ (holdings_after_changes h cs).next_snapshot
owned_snapshot h cs owner =
    ap (λ (k : Holdings). k.next_snapshot) (installed_append h cs (owners_written (holdings_after_changes h cs) owner))
    ∙ (each_put (current (groups_of (holdings_after_changes h cs))) (holdings_after_changes h cs)
    (unwritten (holdings_after_changes h cs) owner)).next_snapshot
