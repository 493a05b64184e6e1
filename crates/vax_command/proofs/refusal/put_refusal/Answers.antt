use Rattle.vax_command.proofs.refusal.put_refusal.Goals as goal

pub returns-in-Large-clause-ok : goal.returns-in-Large-clause-ok
returns-in-Large-clause-ok g c = rw (c.in-Large.is, ← c.as_bytes-in-Large.ensures) c.put_named-in-Large.ensures.ok

pub returns-in-ReadFault-clause-ok : goal.returns-in-ReadFault-clause-ok
returns-in-ReadFault-clause-ok g c = rw c.in-ReadFault.is c.put_all-in-ReadFault.ensures.ok

pub returns-in-NoMemory-clause-ok : goal.returns-in-NoMemory-clause-ok
returns-in-NoMemory-clause-ok g c = rw c.in-NoMemory.is c.put_all-in-NoMemory.ensures.ok
