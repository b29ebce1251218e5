mod Headlines
