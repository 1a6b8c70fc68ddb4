use Rattle.runs.specs.Calls.{strikes, adds, amends, asks, audits_model, audits_entries}
use Rattle.runs.proofs.serving.serve.Goals as goal

pub returns-in-Strike-clause-plain : goal.returns-in-Strike-clause-plain
returns-in-Strike-clause-plain g c = rw c.in-Strike.is (strikes _ _ _ c.strike.ensures.plain.gives)

pub returns-in-Add-clause-plain : goal.returns-in-Add-clause-plain
returns-in-Add-clause-plain g c = rw c.in-Add.is (adds _ _ _ c.add.ensures.plain.gives)

pub returns-in-Amend-clause-plain : goal.returns-in-Amend-clause-plain
returns-in-Amend-clause-plain g c = rw c.in-Amend.is (amends _ _ _ _ c.amend.ensures.plain.gives)

pub returns-in-Ask-clause-plain : goal.returns-in-Ask-clause-plain
returns-in-Ask-clause-plain g c = rw c.in-Ask.is (asks _ _ _ _ _ _ c.ask_with.ensures.plain)

pub returns-in-AuditModel-clause-plain : goal.returns-in-AuditModel-clause-plain
returns-in-AuditModel-clause-plain g c = rw c.in-AuditModel.is (audits_model _ _ _ _ c.audit_model.ensures)

pub returns-in-AuditEntries-clause-plain : goal.returns-in-AuditEntries-clause-plain
returns-in-AuditEntries-clause-plain g c = rw c.in-AuditEntries.is (audits_entries _ _ _ c.audit_entries.ensures)
