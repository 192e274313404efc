-- The round trip of specs/RoundTrip.antt: acceptance, and a capture of the target. Assumes nothing.
use Rattle.demands.specs.RoundTrip.{RoundTrip}
use Rattle.demands.proofs.Acceptance.{acceptance}

pub round-trip : RoundTrip
round-trip c m i d k j l x r₁ r₂ r₃ h₁ h₂ h₃ =
    let a = acceptance c m i d k j (record {
      sound_source = x.sound_source;
      sound_target = x.sound_target;
      same_setup = x.same_setup;
      same_queues = x.same_queues;
      source_member = x.source_member;
      target_member = x.target_member;
      source_get = x.source_get;
      target_set = x.target_set;
      stopped = x.stopped;
      capture_in_use = x.capture_in_use;
      set_in_use = x.set_in_use;
    }) r₁ r₂ h₁ h₂ in
    record { captured = a.captured; full = a.full; accepted = a.accepted; same = a.same l r₃ x.target_get x.recapture_in_use h₃ }
