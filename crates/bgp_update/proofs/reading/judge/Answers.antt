use Rattle.std.proofs.Common.{inl, inr, refl}
use Rattle.bgp_attr.specs.Slots.{values_of}
use Rattle.bgp_update.specs.Faults.{ArePrefixes}
use Rattle.bgp_update.specs.Update.{HasMandatory}
use Rattle.bgp_update.proofs.LayoutLaws.{too_long}
use Rattle.bgp_update.proofs.OutcomeLaws.{refused}
use Rattle.bgp_update.proofs.UpdateLaws.{fields_of, found_update}
use Rattle.bgp_update.proofs.reading.judge.Goals as goal

pub returns-in_default-clause-fault : goal.returns-in_default-clause-fault
returns-in_default-clause-fault c =
    inl (
      too_long c.args.body.now (λ withdrawn field nlri laid. c.in_default.ensures.only withdrawn field nlri laid),
      refl,
    )

pub returns-then-not-check-clause-fault : goal.returns-then-not-check-clause-fault
returns-then-not-check-clause-fault c =
    let fields = c.in-Some.fields in
    inr (record {
      withdrawn = fields.withdrawn.now;
      field = fields.attributes.now;
      nlri = fields.nlri.now;
      laid_out = c.in-Some.ensures.found;
      first = inl (refused (ArePrefixes fields.withdrawn.now) c.check.result c.check.ensures c.if-not-check.true, refl);
    })

pub returns-then-not-has_mandatory-clause-fault : goal.returns-then-not-has_mandatory-clause-fault
returns-then-not-has_mandatory-clause-fault c =
    let fields = c.in-Some.fields in
    let read = c.in-Ok.ensures.found in
    let told = c.has_mandatory.ensures c.args.width c.args.v6 (values_of read.attributes) read.tells in
    let never =
    refused (HasMandatory c.args.v6 fields.nlri.now (values_of read.attributes)) c.has_mandatory.result told
    c.if-not-has_mandatory.true in
    inr (record {
      withdrawn = fields.withdrawn.now;
      field = fields.attributes.now;
      nlri = fields.nlri.now;
      laid_out = c.in-Some.ensures.found;
      first = inr (
        c.check.ensures.0 c.if-not-check.false,
        inr ((read.attributes, read.good), inl ((read.attributes, read.good, never), refl)),
      );
    })

pub returns-then-not-check-2-clause-fault : goal.returns-then-not-check-2-clause-fault
returns-then-not-check-2-clause-fault c =
    let fields = c.in-Some.fields in
    let read = c.in-Ok.ensures.found in
    let told = c.has_mandatory.ensures c.args.width c.args.v6 (values_of read.attributes) read.tells in
    let never = refused (ArePrefixes fields.nlri.now) c.check-2.result c.check-2.ensures c.if-not-check-2.true in
    let mandatory = told.0 c.if-not-has_mandatory.false in
    inr (record {
      withdrawn = fields.withdrawn.now;
      field = fields.attributes.now;
      nlri = fields.nlri.now;
      laid_out = c.in-Some.ensures.found;
      first = inr (
        c.check.ensures.0 c.if-not-check.false,
        inr ((read.attributes, read.good), inr ((read.attributes, read.good, mandatory), inl (never, refl))),
      );
    })

pub of-requires-clause-withdraws : goal.of-requires-clause-withdraws
of-requires-clause-withdraws c =
    fields_of c.in-Some.fields.withdrawn.now c.in-Ok.attrs.unreach.now (c.check.ensures.0 c.if-not-check.false)
    c.in-Ok.ensures.unreach

pub of-requires-clause-announces : goal.of-requires-clause-announces
of-requires-clause-announces c =
    fields_of c.in-Some.fields.nlri.now c.in-Ok.attrs.reach.now (c.check-2.ensures.0 c.if-not-check-2.false)
    c.in-Ok.ensures.reach

pub returns-clause-found : goal.returns-clause-found
returns-clause-found c =
    let fields = c.in-Some.fields in
    let attrs = c.in-Ok.attrs in
    let read = c.in-Ok.ensures.found in
    let told = c.has_mandatory.ensures c.args.width c.args.v6 (values_of read.attributes) read.tells in
    found_update c.args.width c.args.v6 c.args.body.now fields.withdrawn.now fields.attributes.now fields.nlri.now attrs
    c.of.result c.in-Some.ensures.found (record {
      read = read;
      mandatory = told.0 c.if-not-has_mandatory.false;
      withdraws =
          fields_of fields.withdrawn.now attrs.unreach.now (c.check.ensures.0 c.if-not-check.false)
          c.in-Ok.ensures.unreach;
      announces =
          fields_of fields.nlri.now attrs.reach.now (c.check-2.ensures.0 c.if-not-check-2.false) c.in-Ok.ensures.reach;
      same_withdrawn = c.of.ensures.withdrawn;
      same_announced = c.of.ensures.announced;
      same_origin = c.of.ensures.origin;
    })
