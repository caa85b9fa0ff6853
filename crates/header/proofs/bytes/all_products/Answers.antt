-- Three tests together; the lengths are admitted and the lists hold factors.
use Rattle.header.proofs.Headers.{three, products_may}
use Rattle.header.proofs.bytes.all_products.Goals as goal

pub has_product-requires : goal.has_product-requires
has_product-requires c =
    let a = c.args in
    let may = (products_may a.cell.n1 a.cell.n2 a.cell.n3 a.f1.now a.f2.now a.f3.now c.requires.cell_value c.requires.f3_value).0 in
    record { factors_value = may.0; n_bound = may.1 }

pub has_product-requires-2 : goal.has_product-requires-2
has_product-requires-2 c =
    let a = c.args in
    let may = (products_may a.cell.n1 a.cell.n2 a.cell.n3 a.f1.now a.f2.now a.f3.now c.requires.cell_value c.requires.f3_value).1 in
    record { factors_value = may.0; n_bound = may.1 }

pub has_product-requires-3 : goal.has_product-requires-3
has_product-requires-3 c =
    let a = c.args in
    let may = (products_may a.cell.n1 a.cell.n2 a.cell.n3 a.f1.now a.f2.now a.f3.now c.requires.cell_value c.requires.f3_value).2 in
    record { factors_value = may.0; n_bound = may.1 }

pub returns : goal.returns
returns c = three c.has_product.ensures c.has_product-2.ensures c.has_product-3.ensures
