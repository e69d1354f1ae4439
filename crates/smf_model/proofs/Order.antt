-- Every list stays in order, whatever is changed.
use Rattle.std.proofs.Common.{refl, List, [], ◌∷◌, Option, Some, None}
use Rattle.smf_fmri.specs.ByKey.{By, Rises, lookup}
use Rattle.smf_fmri.proofs.KeyOrder.{rises_amend, rises_filter, rises_put, rises_without}
use Rattle.smf_model.specs.declared.change.Change.{Change}
use Rattle.smf_model.specs.declared.change.Change.TheVariants.{AddService, DropService, AddInstance, PutInstance, DropInstance, PutName, DropName, PutGroups, AddSnapshot, DropSnapshots, PutLaunch, NextInstance, NextSnapshot, SetRevision}
use Rattle.smf_model.specs.declared.held.Owner.TheVariants as owners
use Rattle.smf_model.specs.Contents.{Holdings}
use Rattle.smf_model.specs.Laws.{IsOrdered}
use Rattle.smf_model.specs.Look.{by_entry, by_launch, by_name, by_service, by_snapshot, holdings_after_change, holdings_after_changes, put_by_lookup}

rises_by_lookup : {X K : Type 0} (o : By X K) (x : X) (xs : List X) (there : Option X) → Rises o xs
    → Rises o (put_by_lookup o x xs there)
rises_by_lookup o x xs (Some y) r = r
rises_by_lookup o x xs None r = rises_put o x xs r

ordered_change : (h : Holdings) (c : Change) → IsOrdered h → IsOrdered (holdings_after_change h c)
ordered_change h (AddService s) o =
    record {
      services = rises_put by_service s h.services o.services;
      instances = o.instances;
      names = o.names;
      snapshots = o.snapshots;
      launches = o.launches;
    }
ordered_change h (DropService name) o =
    record {
      services = rises_without by_service name h.services o.services;
      instances = o.instances;
      names = o.names;
      snapshots = o.snapshots;
      launches = o.launches;
    }
ordered_change h (AddInstance e) o =
    record {
      services = o.services;
      instances = rises_put by_entry e h.instances o.instances;
      names = o.names;
      snapshots = o.snapshots;
      launches = o.launches;
    }
ordered_change h (PutInstance i) o =
    record {
      services = o.services;
      instances = rises_amend by_entry i.number _ h.instances (λ e. refl) o.instances;
      names = o.names;
      snapshots = o.snapshots;
      launches = o.launches;
    }
ordered_change h (DropInstance n) o =
    record {
      services = o.services;
      instances = rises_without by_entry n h.instances o.instances;
      names = o.names;
      snapshots = o.snapshots;
      launches = o.launches;
    }
ordered_change h (PutName n) o =
    record {
      services = o.services;
      instances = o.instances;
      names = rises_put by_name n h.names o.names;
      snapshots = o.snapshots;
      launches = o.launches;
    }
ordered_change h (DropName name) o =
    record {
      services = o.services;
      instances = o.instances;
      names = rises_without by_name name h.names o.names;
      snapshots = o.snapshots;
      launches = o.launches;
    }
ordered_change h (PutGroups (owners.Service name) gs) o =
    record {
      services = rises_amend by_service name _ h.services (λ s. refl) o.services;
      instances = o.instances;
      names = o.names;
      snapshots = o.snapshots;
      launches = o.launches;
    }
ordered_change h (PutGroups (owners.Instance n) gs) o =
    record {
      services = o.services;
      instances = rises_amend by_entry n _ h.instances (λ e. refl) o.instances;
      names = o.names;
      snapshots = o.snapshots;
      launches = o.launches;
    }
ordered_change h (AddSnapshot s) o =
    record {
      services = o.services;
      instances = o.instances;
      names = o.names;
      snapshots = rises_by_lookup by_snapshot s h.snapshots (lookup by_snapshot h.snapshots s.number) o.snapshots;
      launches = o.launches;
    }
ordered_change h (DropSnapshots n) o =
    record {
      services = o.services;
      instances = o.instances;
      names = o.names;
      snapshots = rises_filter by_snapshot _ h.snapshots o.snapshots;
      launches = o.launches;
    }
ordered_change h (PutLaunch l) o =
    record {
      services = o.services;
      instances = o.instances;
      names = o.names;
      snapshots = o.snapshots;
      launches = rises_put by_launch l h.launches o.launches;
    }
ordered_change h (NextInstance n) o =
    record {
      services = o.services;
      instances = o.instances;
      names = o.names;
      snapshots = o.snapshots;
      launches = o.launches;
    }
ordered_change h (NextSnapshot n) o =
    record {
      services = o.services;
      instances = o.instances;
      names = o.names;
      snapshots = o.snapshots;
      launches = o.launches;
    }
ordered_change h (SetRevision n) o =
    record {
      services = o.services;
      instances = o.instances;
      names = o.names;
      snapshots = o.snapshots;
      launches = o.launches;
    }

pub ordered_after : (h : Holdings) (cs : List Change) → IsOrdered h → IsOrdered (holdings_after_changes h cs)
unfolding holdings_after_changes
ordered_after h [] o = o
ordered_after h (c ∷ cs) o = ordered_after (holdings_after_change h c) cs (ordered_change h c o)
