use Rattle.davd.proofs.folder.read_up_to_date.Goals as goal

pub returns-in-Ok-expect_up_to_date-clause-numbered : goal.returns-in-Ok-expect_up_to_date-clause-numbered
returns-in-Ok-expect_up_to_date-clause-numbered g c = λ strict calm clean tables keeps.
    c.in-Ok-expect_up_to_date.ensures.numbered strict calm (c.in-Ok.ensures.current tables keeps clean)

pub returns-in-Ok-expect_up_to_date-clause-empty : goal.returns-in-Ok-expect_up_to_date-clause-empty
returns-in-Ok-expect_up_to_date-clause-empty g c = λ vacant clean. c.in-Ok.ensures.empty (c.in-Ok.ensures.vacant vacant clean)

pub returns-in-Ok-expect_up_to_date-clause-made_if : goal.returns-in-Ok-expect_up_to_date-clause-made_if
returns-in-Ok-expect_up_to_date-clause-made_if g c = λ vacant clean. c.in-Ok-expect_up_to_date.ensures.tables (c.in-Ok.ensures.vacant vacant clean)

pub returns-in-Ok-expect_up_to_date-clause-started : goal.returns-in-Ok-expect_up_to_date-clause-started
returns-in-Ok-expect_up_to_date-clause-started g c = λ strict sure calm clean tables keeps.
    c.in-Ok-expect_up_to_date.ensures.started strict sure calm (c.in-Ok.ensures.current tables keeps clean)
