pub mod FoldFormulas
